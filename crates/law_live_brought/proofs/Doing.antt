-- what a port does at a success of a branch or of a join: what it asks, and that its peer doesn't see it

use Rattle.std.proofs.Common.{◌≡◌, ℕ, ◌+◌, ◌<◌, ◌==◌, Bool, true, false, List, [], Option, None, Some, refl, sym, ◌∙◌, ap, subst, arith, if◌then◌else◌}
use Rattle.std.specs.Prelude.{nat_lt}
use Rattle.std.specs.Option.{option_map_or}
use Rattle.std.proofs.lemmas.Bool.Decides.{nat_tests}
use Rattle.world_model.specs.Words.{PortNo, Peer, Side, Instance, End, Bind, Request, AddBranch, MoveBranch, is_spent, last_number, at, number_of_channel, label_number_of, Setup, Label, LabelState, Wiring, Offered, Recalled, Wired, label_number, labels_of, label_by, Grant, GrantState, Idle, ByController, ByInput, Leaving, grant_label, grant_on, Session, Work, halts, halts_if_spent, bound, bound_in, started, started_in, Say, Note, redirect, Linked, at_port, causes_in_estab}
use Rattle.world_model.specs.Controller.{Acted}
use Rattle.world_model.specs.Meeting.{port_of_input}
use Rattle.world_model.specs.link_model.declared.record.Record.TheVariants as records
use Rattle.world_model.specs.port_model.Answers as port_answers
use Rattle.world_model.specs.port_model.Port.{Port, with_action, with_label}
use Rattle.world_model.specs.port_model.Saying.{with_number, spent_number}
use Rattle.law_live_binding_beats.specs.law_port_facts.ordered_lists.Ordered.{Every}
use Rattle.law_live_binding_beats.proofs.law_port_facts.ordered_lists.Every.{every_map}
use Rattle.law_live_binding_beats.proofs.law_port_facts.Keyed.{on_both}
use Rattle.law_live_binding_beats.specs.law_live_nodes.Law.{told_by}
use Rattle.law_live_binding_beats.specs.law_live_links.Law.{EndOfLink, number_of}
use Rattle.law_live_binding_beats.specs.law_live_unseen.Law.{SeenLabel, seen_label, AreAlike}
use Rattle.law_live_binding_beats.proofs.law_live_unseen.Alike.{FoundAlike, like_found, label_key}
use Rattle.law_live_binding_beats.proofs.law_live_unseen.Rules.{grants_are_started_unseen}
use Rattle.law_live_binding_beats.proofs.law_live_ports.Keeping.{alike_itself}
use Rattle.law_live_binding_beats.proofs.law_live_others.Working.{IsAct, IsUnseen}
use Rattle.law_live_binding_beats.proofs.law_live_numbers.Standing.{IsCalmNow}
use Rattle.law_live_brought.specs.Law.{IsQuietNode, IsBranchOrJoin, branch, join, WiresNone}
use Rattle.law_live_brought.proofs.Saying.{IsMild}

-- *Numbers that are left* aren't spent
below : (n last : ℕ) → n < last → nat_lt n last ≡ true
below n last low = grind (arith, nat_tests)

not_above : (n last : ℕ) → n < last → nat_lt last (n + 1) ≡ false
not_above n last low = grind (arith, nat_tests)

not_spent : (n last : ℕ) → n < last → nat_lt last n ≡ false
not_spent n last low = grind (arith, nat_tests)

pub unspent_by : (p : Port) → number_of p < last_number → is_spent p.session ≡ false
unspent_by p low = by p.session low
  where
    by : (o : Option Session) → option_map_or (λ (s : Session). s.number) o 0 < last_number → is_spent o ≡ false
    by None low = refl
    by (Some s) low = not_spent s.number last_number low

pub calm_now : (a : Acted) → IsQuietNode a → IsCalmNow a
calm_now a quiet = record {
  up = quiet.up;
  none_waits = quiet.none_waits;
  unspent = every_map (λ (linked : Linked). number_of linked.port < last_number) (λ (linked : Linked). is_spent linked.port.session ≡ false) a.controller.ports
      (λ linked low. unspent_by linked.port low) quiet.numbers;
}

-- *What a port asks* at such a success is to note and to say
module _ (setup : Setup) (side : Side Peer) (grants : List Grant) (tally instances : ℕ) where
  abbrev working : Option Session → Work
  working o = record { port = record { adjacency = side; session = o; grants = grants; redirects = tally }; actions = []; halted = false; instances = instances }

  abbrev noted_first : Option Session → Label → Work
  noted_first o label = with_action (with_label (working o) (record label { state = Offered })) (Note (Bind setup.node setup.port label.number label.flow))

  offer_mild : (label : Label) (o : Option Session) → option_map_or (λ (s : Session). s.number) o 0 < last_number → Every IsMild (bound_in setup (working o) label Wiring).actions
  offer_mild label None low = (tt, tt)
  offer_mild label (Some s) low =
      subst (λ (b : Bool). Every IsMild (halts_if_spent (if b then told else with_number spent_number first)).actions) (sym (below s.number last_number low))
      (subst (λ (b : Bool). Every IsMild (if b then halts told else told).actions) (sym (not_above s.number last_number low)) (tt, (tt, tt)))
    where
      first : Work
      first = noted_first (Some s) label

      own_now : Instance
      own_now = side.own.instance

      peer_now : Instance
      peer_now = option_map_or (λ (peer : Peer). peer.instance) side.stored (record { 0 = 0 })

      told : Work
      told = with_action (with_number (s.number + 1) first) (Say (redirect setup label own_now peer_now s.number))

module _ (setup : Setup) (p : Port) (instances : ℕ) where
  abbrev w : Work
  w = record { port = p; actions = []; halted = false; instances = instances }

  bound_mild : number_of p < last_number → (o : Option Label) → Every IsMild (bound setup w o).actions
  bound_mild low None = tt
  bound_mild low (Some label) = in_state label.state
    where
      in_state : (state : LabelState) → Every IsMild (bound_in setup w label state).actions
      in_state Wiring = offer_mild setup p.adjacency p.grants p.redirects instances label p.session low
      in_state Offered = tt
      in_state (Recalled last acknowledged) = tt
      in_state Wired = tt

  started_mild : (o : Option Grant) → Every IsMild (started w o).actions
  started_mild None = tt
  started_mild (Some grant) = in_state grant.state
    where
      in_state : (state : GrantState) → Every IsMild (started_in w grant state).actions
      in_state Idle = tt
      in_state ByController = tt
      in_state (ByInput input) = tt
      in_state (Leaving input owed) = tt

  pub done_mild : number_of p < last_number → (request : Request) → IsBranchOrJoin request → Every IsMild (port_answers.done setup w request).actions
  done_mild low request (branch input output) =
      on_both (λ (v : Work). Every IsMild v.actions) (input.port.0 == 0) (started w (grant_on p.grants (label_number_of output.channel))) (bound setup w (label_by p (label_number_of input.channel)))
      (started_mild (grant_on p.grants (label_number_of output.channel))) (bound_mild low (label_by p (label_number_of input.channel)))
  done_mild low request (join input from to away) = by (to.port.0 == 0)
    where
      by : (b : Bool) → Every IsMild (if b then w else with_action w (Note (records.Join setup.node setup.port (number_of_channel input.channel) to.port (number_of_channel to.channel)))).actions
      by true = tt
      by false = (tt, tt)

  -- *Nor does its peer see it*, and none is said, unless a label of it is being wired
  pub record IsUnheard (v : Work) : Type 0 where
    pub unseen : IsUnseen p v
    pub none : told_by v.actions ≡ []

  idle_unheard : IsUnheard w
  idle_unheard = record { unseen = record { alike = alike_itself p; acts = tt }; none = refl }

  started_unheard : (number : Option ℕ) → IsUnheard (started w (grant_on p.grants number))
  started_unheard None = idle_unheard
  started_unheard (Some number) = record {
    unseen = record { alike = grants_are_started_unseen instances one_end number; acts = by (at grant_label number p.grants) };
    none = says (at grant_label number p.grants);
  }
    where
      one_end : EndOfLink
      one_end = record { setup = setup; port = p; said = [] }

      in_state : (grant : Grant) (state : GrantState) → Every IsAct (started_in w grant state).actions
      in_state grant Idle = tt
      in_state grant ByController = tt
      in_state grant (ByInput input) = tt
      in_state grant (Leaving input owed) = tt

      by : (o : Option Grant) → Every IsAct (started w o).actions
      by None = tt
      by (Some grant) = in_state grant grant.state

      says_in : (grant : Grant) (state : GrantState) → told_by (started_in w grant state).actions ≡ []
      says_in grant Idle = refl
      says_in grant ByController = refl
      says_in grant (ByInput input) = refl
      says_in grant (Leaving input owed) = refl

      says : (o : Option Grant) → told_by (started w o).actions ≡ []
      says None = refl
      says (Some grant) = says_in grant grant.state

  bound_unheard : (o : Option Label) → ((label : Label) → o ≡ Some label → label.state ≡ Wiring → ⊥) → IsUnheard (bound setup w o)
  bound_unheard None other = idle_unheard
  bound_unheard (Some label) other = in_state label.state refl
    where
      in_state : (state : LabelState) → label.state ≡ state → IsUnheard (bound_in setup w label state)
      in_state Wiring e = absurd (other label refl e)
      in_state Offered e = idle_unheard
      in_state (Recalled last acknowledged) e = idle_unheard
      in_state Wired e = idle_unheard

  branch_unheard : (input output : End) → ((input.port.0 == 0) ≡ false → (label : Label) → label_by p (label_number_of input.channel) ≡ Some label → label.state ≡ Wiring → ⊥)
      → IsUnheard (port_answers.done setup w (AddBranch input output))
  branch_unheard input output other = by (input.port.0 == 0) refl
    where
      by : (b : Bool) → (input.port.0 == 0) ≡ b → IsUnheard (if b then started w (grant_on p.grants (label_number_of output.channel)) else bound setup w (label_by p (label_number_of input.channel)))
      by true e = started_unheard (label_number_of output.channel)
      by false e = bound_unheard (label_by p (label_number_of input.channel)) (other e)

  join_unheard : (input from to : End) → IsUnheard (port_answers.done setup w (MoveBranch input from to))
  join_unheard input from to = by (to.port.0 == 0)
    where
      by : (b : Bool) → IsUnheard (if b then w else with_action w (Note (records.Join setup.node setup.port (number_of_channel input.channel) to.port (number_of_channel to.channel))))
      by true = idle_unheard
      by false = record { unseen = record { alike = alike_itself p; acts = (tt, tt) }; none = refl }

-- *Which port is told*
abbrev pub told_port : (request : Request) → IsBranchOrJoin request → PortNo
told_port request (branch input output) = port_of_input input output
told_port request (join input from to away) = port_of_input input to

pub caused_at : (r : Acted) (request : Request) (is : IsBranchOrJoin request) → causes_in_estab r request ≡ at_port r (told_port request is) (λ setup desk v. port_answers.done setup v request)
caused_at r request (branch input output) = refl
caused_at r request (join input from to away) = refl

-- *None of its labels is wired*, nor of a port that is left alike
pub none_alike : (linked l : Linked) → l.setup ≡ linked.setup → AreAlike linked.port l.port → (request : Request) → IsBranchOrJoin request → WiresNone linked request → WiresNone l request
none_alike linked l setup alike request (join input from to away) none = tt
none_alike linked l setup alike request (branch input output) none = λ same label found wiring.
    by (same ∙ ap (λ (s : Setup). s.port.0) setup) label (label_number_of input.channel) refl found wiring
  where
    by : input.port.0 ≡ linked.setup.port.0 → (label : Label) (o : Option ℕ) → label_number_of input.channel ≡ o → label_by l.port o ≡ Some label → label.state ≡ Wiring → ⊥
    by same label None e found wiring = absurd (cc found)
    by same label (Some n) e found wiring =
        let there : FoundAlike seen_label label_number n (labels_of linked.port) label = like_found seen_label label_number label_key (λ x. refl) n (labels_of l.port) (labels_of linked.port) label (sym alike.labels) found in
        none same there.found (ap (label_by linked.port) e ∙ there.there) (ap (λ (s : SeenLabel). s.state) there.same ∙ wiring)

pub done_unheard : (l : Linked) (instances : ℕ) (request : Request) (is : IsBranchOrJoin request) → (told_port request is).0 ≡ l.setup.port.0 → WiresNone l request
    → IsUnheard l.setup l.port instances (port_answers.done l.setup (record { port = l.port; actions = []; halted = false; instances = instances }) request)
done_unheard l instances request (join input from to away) told none = join_unheard l.setup l.port instances input from to
done_unheard l instances request (branch input output) told none = branch_unheard l.setup l.port instances input output
    (λ e label found wiring. none (ap (λ (b : Bool). (if b then output.port else input.port).0) (sym e) ∙ told) label found wiring)
