-- each rule, of a port at work that is taken to its parts

use Rattle.std.proofs.Common.{◌≡◌, ℕ, ◌<◌, ◌+◌, ◌&&◌, Bool, true, false, not, List, [], ◌∷◌, ◌++◌, append_assoc, append-nil, length, None, Some, refl, sym, ◌∙◌, ap, arith, if◌then◌else◌}
use Rattle.std.specs.Prelude.{nat_eq, nat_le, nat_lt, min}
use Rattle.std.proofs.lemmas.Bool.{eq-eqb}
use Rattle.std.proofs.lemmas.Bool.Decides.{nat_tests}
use Rattle.port_model.specs.Words.{Addr, Instance, AddBranch, label_channel_of, label_number_of, is_label_number, FlowId, same_flow, Redirect, Bind, Peer, Side, at, put, Desk, Setup, is_in_range, label_end, control_end, Label, Offered, label_number, Grant, Idle, ByController, grant_label, is_leaving, most_grants, New, GrantsFull, Refreshed, IsLeaving, acceptance, acceptance_of, acceptance_beside, Session, Work, has_room, last_number, own_instance, redirect, halts_if_spent, halts, spent_number, takes, expects, grants_label, bound, bound_in, label_by, started, started_in, grant_on, hears}
use Rattle.port_model.specs.link_model.ipv4_packet.declared.flow.FlowId.TheVariants.{One, Two}
use Rattle.port_model.specs.declared.action.Action.{Action}
use Rattle.port_model.specs.declared.action.Action.TheVariants.{Ask, Note, Say}
use Rattle.port_model.specs.Answers.{done}
use Rattle.port_model.specs.Grants.{OutOfRange, Taken}
use Rattle.port_model.specs.Port.{Port, with_action}
use Rattle.port_model.specs.Redirection.{greatest_tally, redirected}
use Rattle.port_model.specs.Saying.{peer_instance, says, with_number}
use Rattle.law_live_labels.specs.Law.{IsWorking, IsWired, IsTaken, left, offers_label, accepted, makes_grant, LabelsAreOffered, GrantsAreMade, GrantsAreStarted, GrantsAreRefreshed}

-- *Labels* are known by their channels
pub in_range_number : (setup : Setup) (number : ℕ) → is_in_range setup number ≡ true → label_number_of (label_channel_of number) ≡ Some number
in_range_number setup number inside = known number (first (is_label_number number) (nat_le setup.least number && nat_le number setup.greatest) inside)
  where
    first : (a b : Bool) → (a && b) ≡ true → a ≡ true
    first true b h = refl
    first false b h = absurd (cc h)

    known : (n : ℕ) → is_label_number n ≡ true → label_number_of (label_channel_of n) ≡ Some n
    known n is = grind (arith, nat_tests)

-- a flow is the same as itself
pub same : (n : ℕ) → nat_eq n n ≡ true
same n = eq-eqb n n refl

same_itself : (f : FlowId) → same_flow f f ≡ true
same_itself (One tos ttl protocol source destination from to) =
    rw (same tos, same ttl, same protocol, same source.0, same destination.0, same from, same to) refl
same_itself (Two ttl source destination) = rw (same ttl, same source.0, same destination.0) refl

-- *A port at work* in a session, with these grants and actions
abbrev pub at_work : Side Peer → (redirects instances : ℕ) → Session → List Grant → List Action → Work
at_work side redirects instances s grants actions = record {
  port = record { adjacency = side; session = Some s; grants = grants; redirects = redirects };
  actions = actions;
  halted = false;
  instances = instances;
}

module _ (setup : Setup) (w : Work) (s : Session) (working : IsWorking setup w s) where
  abbrev taken_apart : Work
  taken_apart = at_work w.port.adjacency w.port.redirects w.instances s w.port.grants w.actions

  parts : w ≡ taken_apart
  parts = λ i. record {
    port = record { adjacency = w.port.adjacency; session = working.is_open i; grants = w.port.grants; redirects = w.port.redirects };
    actions = w.actions;
    halted = working.going i;
    instances = w.instances;
  }

  -- what is left of it has its own halt
  whole : (port : Port) (more : List Action) → (let v : Work = record { port = port; actions = w.actions ++ more; halted = false; instances = w.instances } in v) ≡ left w port more
  whole port more = λ i. record { port = port; actions = w.actions ++ more; halted = sym working.going i; instances = w.instances }

  -- *The label is offered*
  module _ (label : Label) (wired : IsWired setup w s label) where
    abbrev offered : Label
    offered = record label { state = Offered }

    abbrev told : Session
    told = record s { labels = put label_number offered s.labels }

    abbrev noted : List Action
    noted = w.actions ++ Note (Bind setup.node setup.port label.number label.flow) ∷ []

    abbrev before_saying : Work
    before_saying = at_work w.port.adjacency w.port.redirects w.instances told w.port.grants noted

    abbrev message : Action
    message = Say (redirect setup label (own_instance w.port.adjacency) (peer_instance w.port.adjacency) s.number)

    abbrev after_saying : Work
    after_saying = at_work w.port.adjacency w.port.redirects w.instances (record told { number = s.number + 1 }) w.port.grants (noted ++ message ∷ [])

    says_it : says before_saying (redirect setup label) ≡ after_saying
    says_it = ap (λ (b : Bool). halts_if_spent (if b then with_action (with_number (s.number + 1) before_saying) message else with_number spent_number before_saying)) (below s.number last_number wired.number_left)
        ∙ ap (λ (b : Bool). if b then halts after_saying else after_saying) (unspent s.number last_number wired.number_left)
      where
        below : (n m : ℕ) → n < m → nat_lt n m ≡ true
        below n m h = grind (arith, nat_tests)

        unspent : (n m : ℕ) → n < m → nat_lt m (n + 1) ≡ false
        unspent n m h = grind (arith, nat_tests)

    offers : done setup w (AddBranch (label_end setup.port label.number) (control_end setup.port label.number)) ≡ offers_label setup w s label
    offers = ap (λ (v : Work). done setup v (AddBranch (label_end setup.port label.number) (control_end setup.port label.number))) parts
        ∙ (ap (λ (b : Bool). if b then started taken_apart (grant_on w.port.grants (label_number_of (control_end setup.port label.number).channel)) else bound setup taken_apart (label_by taken_apart.port (label_number_of (label_channel_of label.number)))) working.of_link
        ∙ (ap (λ o. bound setup taken_apart (label_by taken_apart.port o)) (in_range_number setup label.number wired.in_range)
        ∙ (ap (bound setup taken_apart) wired.held
        ∙ (ap (bound_in setup taken_apart label) wired.wiring
        ∙ (says_it
        ∙ (ap (λ actions. at_work w.port.adjacency w.port.redirects w.instances (record told { number = s.number + 1 }) w.port.grants actions) (append_assoc w.actions (Note (Bind setup.node setup.port label.number label.flow) ∷ []) (message ∷ []))
        ∙ whole (record w.port { session = Some (record told { number = s.number + 1 }) }) (Note (Bind setup.node setup.port label.number label.flow) ∷ message ∷ [])))))))

  -- *A grant is started*
  module _ (grant : Grant) (in_range : is_in_range setup grant.label ≡ true) (held : at grant_label grant.label w.port.grants ≡ Some grant) (idle : grant.state ≡ Idle) where
    starts : done setup w (AddBranch (control_end setup.port grant.label) (label_end setup.port grant.label))
        ≡ left w (record w.port { grants = put grant_label (record grant { state = ByController }) w.port.grants }) []
    starts = ap (λ (v : Work). done setup v (AddBranch (control_end setup.port grant.label) (label_end setup.port grant.label))) parts
        ∙ (ap (λ o. started taken_apart (grant_on w.port.grants o)) (in_range_number setup grant.label in_range)
        ∙ (ap (started taken_apart) held
        ∙ (ap (started_in taken_apart grant) idle
        ∙ (ap (λ actions. at_work w.port.adjacency w.port.redirects w.instances s (put grant_label (record grant { state = ByController }) w.port.grants) actions) (sym (append-nil w.actions))
        ∙ whole (record w.port { session = Some s; grants = put grant_label (record grant { state = ByController }) w.port.grants }) []
        ∙ same_session))))
      where
        same_session : left w (record w.port { session = Some s; grants = put grant_label (record grant { state = ByController }) w.port.grants }) []
            ≡ left w (record w.port { grants = put grant_label (record grant { state = ByController }) w.port.grants }) []
        same_session = ap (λ o. left w (record w.port { session = o; grants = put grant_label (record grant { state = ByController }) w.port.grants }) []) (sym working.is_open)

  -- *A REDIRECT is taken*
  module _ (desk : Desk) (source : Addr) (sender peer : Instance) (number label lifetime : ℕ) (flow : FlowId) (t : IsTaken setup w s source sender peer number label) where
    abbrev expecting : Work
    expecting = at_work (record w.port.adjacency { silence = 0 }) w.port.redirects w.instances (record s { expected = number + 1 }) w.port.grants w.actions

    taken_parts : takes taken_apart.port source sender peer number ≡ true
    taken_parts = ap (λ (v : Work). takes v.port source sender peer number) (sym parts) ∙ t.taken

    comes : hears setup desk w source (Redirect sender peer number lifetime (label_channel_of label) flow)
        ≡ redirected setup desk expecting (label_channel_of label) flow lifetime (acceptance_beside w.port.grants label flow (at grant_label label w.port.grants))
    comes = ap (λ (v : Work). hears setup desk v source (Redirect sender peer number lifetime (label_channel_of label) flow)) parts
        ∙ (ap (λ (b : Bool). if b then redirected setup desk (expects taken_apart number) (label_channel_of label) flow lifetime (acceptance setup w.port.grants (label_channel_of label) flow) else taken_apart) taken_parts
        ∙ (ap (λ o. redirected setup desk expecting (label_channel_of label) flow lifetime (acceptance_of setup w.port.grants flow o)) (in_range_number setup label t.in_range)
        ∙ ap (λ (b : Bool). redirected setup desk expecting (label_channel_of label) flow lifetime (if b then acceptance_beside w.port.grants label flow (at grant_label label w.port.grants) else OutOfRange)) t.in_range))

    made : at grant_label label w.port.grants ≡ None → length w.port.grants < most_grants → has_room desk w ≡ true
        → hears setup desk w source (Redirect sender peer number lifetime (label_channel_of label) flow) ≡ makes_grant setup w s number label lifetime flow
    made none few room = comes
        ∙ (ap (λ o. redirected setup desk expecting (label_channel_of label) flow lifetime (acceptance_beside w.port.grants label flow o)) none
        ∙ (ap (λ (b : Bool). redirected setup desk expecting (label_channel_of label) flow lifetime (if b then New label else GrantsFull)) (below (length w.port.grants) most_grants few)
        ∙ (ap (λ (b : Bool). if b then grants_label setup expecting label flow lifetime else expecting) room
        ∙ whole (accepted w s number (w.port.grants ++ record { label = label; flow = flow; lifetime = lifetime; state = Idle } ∷ [])) (Ask (AddBranch (control_end setup.port label) (label_end setup.port label)) false ∷ []))))
      where
        below : (n m : ℕ) → n < m → nat_lt n m ≡ true
        below n m h = grind (arith, nat_tests)

    refreshed : (grant : Grant) → at grant_label label w.port.grants ≡ Some grant → grant.flow ≡ flow → is_leaving grant.state ≡ false
        → hears setup desk w source (Redirect sender peer number lifetime (label_channel_of label) flow)
        ≡ left w (accepted w s number (put grant_label (record grant { lifetime = lifetime }) w.port.grants)) []
    refreshed grant there own stays = comes
        ∙ (ap (λ o. redirected setup desk expecting (label_channel_of label) flow lifetime (acceptance_beside w.port.grants label flow o)) there
        ∙ (ap (λ (b : Bool). redirected setup desk expecting (label_channel_of label) flow lifetime (if not b then Taken else (if is_leaving grant.state then IsLeaving else Refreshed grant))) (ap (same_flow grant.flow) (sym own) ∙ same_itself grant.flow)
        ∙ (ap (λ (b : Bool). redirected setup desk expecting (label_channel_of label) flow lifetime (if b then IsLeaving else Refreshed grant)) stays
        ∙ (ap (λ actions. at_work (record w.port.adjacency { silence = 0 }) (min greatest_tally (w.port.redirects + 1)) w.instances (record s { expected = number + 1 }) (put grant_label (record grant { lifetime = lifetime }) w.port.grants) actions) (sym (append-nil w.actions))
        ∙ whole (accepted w s number (put grant_label (record grant { lifetime = lifetime }) w.port.grants)) []))))

pub labels_are_offered : LabelsAreOffered
labels_are_offered setup w s label wired = offers setup w s wired.working label wired

pub grants_are_made : GrantsAreMade
grants_are_made setup desk w s source sender peer number label lifetime flow t none few room =
    made setup w s t.working desk source sender peer number label lifetime flow t none few room

pub grants_are_started : GrantsAreStarted
grants_are_started setup w s grant working in_range held idle = starts setup w s working grant in_range held idle

pub grants_are_refreshed : GrantsAreRefreshed
grants_are_refreshed setup desk w s source sender peer number lifetime grant t there stays =
    refreshed setup w s t.working desk source sender peer number grant.label lifetime grant.flow t grant there refl stays
