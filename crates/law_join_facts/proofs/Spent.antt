-- What the other rules of a controller leave of its joins.

use Rattle.std.proofs.Common.{◌≡◌, Bool, true, false, List, [], ◌∷◌, map, fold, Option, None, Some, refl, ◌∙◌, if◌then◌else◌}
use Rattle.std.specs.Prelude.{◌≢◌, flat_map}
use Rattle.net_types.specs.declared.adjacency.Greeting.{Greeting}
use Rattle.net_types.specs.declared.adjacency.Party.{Party}
use Rattle.adjacency_table.specs.declared.message.Answer.{Answer}
use Rattle.adjacency_table.specs.declared.message.Answer.TheVariants as answer_variants
use Rattle.adjacency_table.specs.declared.message.Answer.TheVariants.{Quiet, Send, Open}
use Rattle.gsmp_wire.specs.declared.message.Message.TheVariants.{Adjacency}
use Rattle.controller_joins.specs.world_model.Gsmp.{answers}
use Rattle.controller_joins.specs.world_model.Sending.{says_gsmp}
use Rattle.net_types.specs.declared.node.PortNo.{PortNo}
use Rattle.gsmp_wire.specs.declared.request.Request.{Request}
use Rattle.gsmp_wire.specs.declared.request.Request.TheVariants.{AddBranch, MoveBranch, DeleteTree, VerifyTree, DeleteAll, PortManagement, AllPorts}
use Rattle.port_model.specs.declared.action.Action.TheVariants.{Reset}
use Rattle.port_model.specs.Answers as port_answers
use Rattle.port_model.specs.Saying.{halts_if_spent, is_spent}
use Rattle.controller_joins.specs.world_model.Controller.{Acted, Linked, default_end, default_home, linked_at, ports_of, with_desk, with_linked}
use Rattle.controller_joins.specs.world_model.Asking.{asks}
use Rattle.controller_joins.specs.world_model.Joins.{resets_spent}
use Rattle.controller_joins.specs.world_model.Meeting.{behind_delete_all, causes, causes_in_estab, clears_of, clears_port, default_branches, ends_meeting, empties, has_emptied, may_clear, meets, request_port, tells_port, up_ports}
use Rattle.controller_joins.specs.world_model.Resets.{begins, cuts_default, cuts_default_of, cuts_gsmp}
use Rattle.controller_joins.specs.world_model.Ticks.{sends_again}
use Rattle.controller_joins.specs.world_model.Asking.{sends_request}
use Rattle.port_model.specs.Desk.{Standing, empty_desk, sent_again}
use Rattle.law_join_facts.specs.Joins.{joined_at}
use Rattle.law_join_facts.proofs.Ordered.{on_both}
use Rattle.law_join_facts.proofs.Lasts.{AreDifferent, Keeps, Lasts, Stays, asks_lasts, at_port_lasts, differ_after, each, itself, joined_to, node_reset, onward, own, sent_control, stands, stays_control, stays_onward, stays_placed, stays_still, still}

-- *Spent numbers*: a port that is closed asks for its reset
closes_keeps : (a : Acted) (linked : Linked) (spent : Bool) → joined_at (record linked { port = (if spent then record (begins a linked) { actions = Reset ∷ []; halted = true } else begins a linked).port }) ≡ joined_at linked
closes_keeps a linked true = refl
closes_keeps a linked false = refl

pub spent_lasts : (a : Acted) (port : PortNo) → AreDifferent a → Lasts a (resets_spent a port)
spent_lasts a port differ = at_port_lasts port (λ setup desk w. halts_if_spent w) a (λ linked found. closes_keeps a linked (is_spent linked.port.session)) differ

pub all_spent_last : (ports : List PortNo) (a : Acted) → AreDifferent a → Lasts a (fold resets_spent a ports)
all_spent_last ports a differ = each resets_spent spent_lasts ports a differ

-- *Clearing*
clears_of_stays : (a : Acted) (port : PortNo) (o : Option Linked) → linked_at a.controller port ≡ o → Stays a (clears_of a o)
clears_of_stays a port None found = stays_still a a refl refl
clears_of_stays a port (Some linked) found = on_both (Stays a) (may_clear a.controller linked) (with_linked a _) a
    (stays_placed a (with_linked a _) linked _ (own a port linked found) refl refl refl refl) (stays_still a a refl refl)

pub clears_stays : (ports : List PortNo) (a : Acted) → Stays a (fold clears_port a ports)
clears_stays [] a = stays_still a a refl refl
clears_stays (port ∷ ports) a = stays_onward a (clears_port a port) (fold clears_port (clears_port a port) ports) (clears_of_stays a port (linked_at a.controller port) refl) (clears_stays ports (clears_port a port))

-- *Meeting the switch*
pub all_asked : (requests : List Request) (a : Acted) → AreDifferent a → Lasts a (fold asks a requests)
all_asked requests a differ = each asks (λ b request d. asks_lasts request b d) requests a differ

ends_meeting_lasts : (a : Acted) → AreDifferent a → Lasts a (ends_meeting a)
ends_meeting_lasts a differ =
    let b : Acted = record a { controller = record a.controller { has_met = true } } in
    let first : Lasts a b = still a b refl refl in
    onward a b (ends_meeting a) first (all_asked (flat_map default_branches (up_ports a.controller)) b (differ_after a b first differ))

behind_lasts : (a : Acted) (port : PortNo) → AreDifferent a → Lasts a (behind_delete_all a port)
behind_lasts a port differ = on_both (Lasts a) a.controller.has_met (asks a (AddBranch (default_end port) (default_home port))) (if has_emptied a.controller then ends_meeting a else a)
    (asks_lasts (AddBranch (default_end port) (default_home port)) a differ)
    (on_both (Lasts a) (has_emptied a.controller) (ends_meeting a) a (ends_meeting_lasts a differ) (itself a))

tells_lasts : (a : Acted) (request : Request) (o : Option PortNo) → ((port : PortNo) → o ≡ Some port → Keeps a port (λ setup desk w. port_answers.done setup w request)) → AreDifferent a → Lasts a (tells_port a request o)
tells_lasts a request None keeps differ = itself a
tells_lasts a request (Some port) keeps differ = at_port_lasts port (λ setup desk w. port_answers.done setup w request) a (keeps port refl) differ

causes_in_lasts : (a : Acted) (request : Request) → ((port : PortNo) → request_port request ≡ Some port → Keeps a port (λ setup desk w. port_answers.done setup w request)) → AreDifferent a → Lasts a (causes_in_estab a request)
causes_in_lasts a (DeleteAll port) keeps differ = behind_lasts a port differ
causes_in_lasts a (AddBranch input output) keeps differ = tells_lasts a (AddBranch input output) (request_port (AddBranch input output)) keeps differ
causes_in_lasts a (MoveBranch input from to) keeps differ = tells_lasts a (MoveBranch input from to) (request_port (MoveBranch input from to)) keeps differ
causes_in_lasts a (DeleteTree input) keeps differ = tells_lasts a (DeleteTree input) (request_port (DeleteTree input)) keeps differ
causes_in_lasts a (VerifyTree input) keeps differ = tells_lasts a (VerifyTree input) (request_port (VerifyTree input)) keeps differ
causes_in_lasts a (PortManagement port function) keeps differ = tells_lasts a (PortManagement port function) (request_port (PortManagement port function)) keeps differ
causes_in_lasts a AllPorts keeps differ = itself a

pub causes_lasts : (a : Acted) (request : Request) → ((port : PortNo) → request_port request ≡ Some port → Keeps a port (λ setup desk w. port_answers.done setup w request)) → AreDifferent a → Lasts a (causes a request)
causes_lasts a request keeps differ = on_both (Lasts a) (stands a) (causes_in_estab a request) a (causes_in_lasts a request keeps differ) (itself a)

pub empties_lasts : (a : Acted) → AreDifferent a → Lasts a (empties a)
empties_lasts a differ = all_asked (map DeleteAll (record { 0 = 0 } ∷ up_ports a.controller)) a differ

-- *The cuts of a node restart* keep all joins
cut_default_stays : (a : Acted) (port : PortNo) (o : Option Linked) → linked_at a.controller port ≡ o → Stays a (cuts_default_of a o)
cut_default_stays a port None found = stays_still a a refl refl
cut_default_stays a port (Some linked) found = stays_placed a (cuts_default_of a (Some linked)) linked _ (own a port linked found) refl refl refl refl

cut_defaults_stay : (ports : List PortNo) (a : Acted) → Stays a (fold cuts_default a ports)
cut_defaults_stay [] a = stays_still a a refl refl
cut_defaults_stay (port ∷ ports) a = stays_onward a (cuts_default a port) (fold cuts_default (cuts_default a port) ports) (cut_default_stays a port (linked_at a.controller port) refl) (cut_defaults_stay ports (cuts_default a port))

pub cuts_stay : (ports : List PortNo) (a : Acted) → Stays a (fold cuts_default (cuts_gsmp a) ports)
cuts_stay ports a = stays_onward a (cuts_gsmp a) (fold cuts_default (cuts_gsmp a) ports) (stays_still a (cuts_gsmp a) refl refl) (cut_defaults_stay ports (cuts_gsmp a))

-- *The adjacency with the switch*, where it isn't reset
pub meets_lasts : (a : Acted) → AreDifferent a → Lasts a (meets a)
meets_lasts a differ = (let b : Acted = with_desk a empty_desk in onward a b (meets a) (still a b refl refl) (asks_lasts AllPorts b differ))

pub answers_last : (a : Acted) (answer : Answer Greeting Party) → answer ≢ answer_variants.Reset → AreDifferent a → Lasts a (answers a answer)
answers_last a Quiet goes differ = itself a
answers_last a (Send greeting) goes differ = sent_control a _ _
answers_last a (Open None party) goes differ = meets_lasts a differ
answers_last a (Open (Some greeting) party) goes differ =
    let b : Acted = says_gsmp a (Adjacency greeting) in
    let first : Lasts a b = sent_control a _ _ in
    onward a b (meets b) first (meets_lasts b (differ_after a b first differ))
answers_last a answer_variants.Reset goes differ = absurd (goes refl)

-- *Ticks*
pub again_stays : (a : Acted) → Stays a (sends_again a)
again_stays a = on_both (Stays a) (stands a) (fold sends_request a (sent_again a.controller.desk)) a (all_sent (sent_again a.controller.desk) a) (stays_still a a refl refl) where
  all_sent : (standing : List Standing) (b : Acted) → Stays b (fold sends_request b standing)
  all_sent [] b = stays_still b b refl refl
  all_sent (s ∷ standing) b = stays_onward b (sends_request b s) (fold sends_request (sends_request b s) standing) (stays_control b _ _) (all_sent standing (sends_request b s))
