-- a controller of a node that is neither end: it makes frames and draws numbers, and that is all that the line sees of it

use Rattle.std.proofs.Common.{◌≡◌, ℕ, ◌≤◌, ◌+◌, List, [], ◌∷◌, ◌++◌, Some, refl, sym, subst, arith, fold}
use Rattle.law_controller_facts.specs.world_model.Words.{PortNo, End as ChannelEnd, Channel, next_control, with_control, Request, Action, Setup, Linked, linked_at, chain_of, sends_control, cuts_of, cuts_default_of, cuts_gsmp, begins, resets_gsmp, node_resets, asks, takes_back, Rule, at_port, takes_change, with_desk, after_answer, gsmp_received}
use Rattle.law_controller_facts.proofs.ordered_lists.Every.{every_all}
use Rattle.law_controller_facts.specs.world_model.Controller.{Acted, note}
use Rattle.law_controller_facts.specs.world_model.gsmp_wire.declared.message.Message.{Message}
use Rattle.law_controller_facts.specs.world_model.Gsmp.{message_comes}
use Rattle.law_shown_cells.specs.Seen.{IsUnmade, Extends}
use Rattle.law_shown_cells.proofs.Made.{extends_made, unmade_next}
use Rattle.law_shown_cells.proofs.Tested.{cut_frames}
use Rattle.law_rule_walks.proofs.Controllers.{Keeps, DrawsAt, draws_works}
use Rattle.law_rule_walks.proofs.Controllers as controllers
use Rattle.law_rule_walks.proofs.Changes as route_changes
use Rattle.law_controller_views.specs.Ends.{Grows}
use Rattle.law_controller_views.specs.Lifted.{Growing}
use Rattle.law_controller_views.proofs.Parts.{grows_self, grows_on}
use Rattle.law_controller_views.proofs.Sends.{sent_cases}
use Rattle.law_controller_views.proofs.Works.{same_extends, same_unmade}

pub grow_self : (a : Acted) → Growing a a
grow_self a u = grows_self a

pub grow_on : (a b c : Acted) → Growing a b → Growing b c → Growing a c
grow_on a b c f g u = grows_on (f u) (g ((f u).unmade u))

pub grow_fold : {A : Type 0} (f : Acted → A → Acted) → ((a : Acted) (x : A) → Growing a (f a x)) → (xs : List A) (a : Acted) → Growing a (fold f a xs)
grow_fold f each [] a = grow_self a
grow_fold f each (x ∷ xs) a = grow_on a (f a x) (fold f (f a x) xs) (each a x) (grow_fold f each xs (f a x))

-- the same frames
pub grow_same : (a b : Acted) → b.notes.frames ≡ a.notes.frames → a.numbers.instances ≤ b.numbers.instances → b.numbers.controls ≡ a.numbers.controls → Growing a b
grow_same a b frames drawn controls u = record {
  extends = same_extends a.notes.frames b.notes.frames frames;
  instances = drawn;
  unmade = λ v. subst (λ (n : ℕ). IsUnmade n b.notes.frames) (sym controls) (same_unmade a.numbers.controls a.notes.frames b.notes.frames frames v);
}

pub sends_grow : (a : Acted) (channel : Channel) (payload : List ℕ) → Growing a (sends_control a channel payload)
sends_grow a channel payload = sent_cases (Growing a) (record a { numbers = with_control a.numbers }) channel (next_control a.numbers) payload
    (λ u. record { extends = extended u; instances = omega arith; unmade = λ v. unmade_next a.numbers.controls a.notes.frames payload v })
    (λ u. record { extends = extended u; instances = omega arith; unmade = λ v. unmade_next a.numbers.controls a.notes.frames payload v })
  where
    extended : IsUnmade a.numbers.controls a.notes.frames
        → Extends a.notes.frames (a.notes.frames ++ record { mark = next_control a.numbers; payload = payload } ∷ [])
    extended u = extends_made a.notes.frames (next_control a.numbers) payload (u (a.numbers.controls + 1) (omega arith))

-- *Each change* of a controller, since what it was at first
module _ (first : Acted) (u : IsUnmade first.numbers.controls first.notes.frames) where
  -- a controller that has grown goes on growing
  pub grown : (a b : Acted) → Growing a b → Grows first a → Grows first b
  grown a b g h = grows_on h (g (h.unmade u))

  pub grown_same : (a b : Acted) → b.notes.frames ≡ a.notes.frames → a.numbers.instances ≤ b.numbers.instances → b.numbers.controls ≡ a.numbers.controls → Grows first a → Grows first b
  grown_same a b frames more controls h = grown a b (grow_same a b frames more controls) h

  pub keeps : Keeps (Unit {0}) (Grows first) (DrawsAt first.numbers.instances) (λ (setup : Setup) (action : Action). Unit {0})
  keeps = record {
    beginning = λ a linked found h. h.instances;
    working = draws_works first.numbers.instances;
    asking = λ setup desk w h. every_all (λ (action : Action). Unit {0}) w.actions (λ action. tt);
    placing = λ a linked w found more h. record { extends = h.extends; instances = more; unmade = h.unmade };
    clearing = λ a linked found may h. grown_same a _ refl (omega arith) refl h;
    saying = λ setup a message is h. grown a _ (sends_grow a _ _) h;
    noting = λ setup a item is h. grown_same a (note a item) refl (omega arith) refl h;
    withdrawing = λ setup a input is h. grown_same a _ refl (omega arith) refl h;
    parting = λ a input h. grown_same a _ refl (omega arith) refl h;
    telling = λ a message h. grown a _ (sends_grow a _ _) h;
    requesting = λ a request estab room h. grown_same a _ refl (omega arith) refl h;
    resetting = λ a h. grown_same a (resets_gsmp a) refl (omega arith) refl h;
    emptying = λ a h. grown_same a _ refl (omega arith) refl h;
    meeting = λ a h. grown_same a _ refl (omega arith) refl h;
    cutting_label = λ a linked label found h. grown_same a (cuts_of a label (Some linked)) (cut_frames a.notes (chain_of linked.chains label)) (omega arith) refl h;
    cutting_default = λ a linked found h. grown_same a (cuts_default_of a (Some linked)) (cut_frames a.notes linked.reassembly) (omega arith) refl h;
    cutting_gsmp = λ a h. grown_same a (cuts_gsmp a) (cut_frames a.notes a.controller.reassembly) (omega arith) refl h;
    changing = λ a h. grown_same a _ refl (omega arith) refl h;
  }

pub node_resets_grow : (a : Acted) → Growing a (node_resets a)
node_resets_grow a u = controllers.node_resets_kept (keeps a u) a (grows_self a)

pub asks_grow : (a : Acted) (request : Request) → Growing a (asks a request)
asks_grow a request u = controllers.asks_kept (keeps a u) a request (grows_self a)

pub takes_back_grow : (a : Acted) (input output : ChannelEnd) → Growing a (takes_back a input output)
takes_back_grow a input output u = controllers.takes_back_kept (keeps a u) a input output (grows_self a)

-- a rule of a port, which draws instances and gives none back
pub at_port_grow : (a : Acted) (q : PortNo) (rule : Rule)
    → ((linked : Linked) → linked_at a.controller q ≡ Some linked → a.numbers.instances ≤ (rule linked.setup a.controller.desk (begins a linked)).instances)
    → Growing a (at_port a q rule)
at_port_grow a q rule more u = controllers.any_kept (keeps a u) a q rule (λ linked is found. more linked is) (grows_self a)

-- a message of the switch
pub told_grow : (a : Acted) (message : Message) → Growing a (message_comes a message)
told_grow a message u = route_changes.told_kept (keeps a u) (λ b change later waits h. grown_same a u b (takes_change b change later) refl (omega arith) refl h) tt
    (λ b answer h. grown_same a u b (with_desk b (after_answer b.controller.desk answer)) refl (omega arith) refl h) a message
    (λ greeting is. grown_same a u a (record a { controller = record a.controller { adjacency = (gsmp_received a.controller.adjacency greeting).side } }) refl (omega arith) refl (grows_self a)) (grows_self a)
