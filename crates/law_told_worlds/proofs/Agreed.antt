-- a REDIRECT or a RECLAIM that waits for a controller is of the flow for which its label is granted: all users of a label on a
-- link stand for one flow

use Rattle.std.proofs.Common.{◌≡◌, ℕ, Bool, true, false, not, List, [], ◌∷◌, length, Option, None, Some, refl, sym, ◌∙◌, ap, subst, arith, if◌then◌else◌}
use Rattle.std.specs.Prelude.{Contains, ◌&&◌, ◌==◌, nat_eq, nat_lt}
use Rattle.std.specs.Option.{option_map, option_map_or, option_and_then}
use Rattle.std.proofs.lemmas.Bool.Decides.{nat_tests}
use Rattle.world_model.specs.Words.{Up, Instance, label_channel_of, Cell, source_of, same_flow, FlowId, default_unwrapped, Redirect, Reclaim, Frame, payload_of, at, Setup, is_in_range, Grant, GrantState, Idle, ByController, ByInput, Leaving, grant_label, Acceptance, New, Refreshed, IsLeaving, GrantsFull, acceptance_of, acceptance_beside, is_leaving, most_grants, queue_of, control_port, Controller, Linked, linked_at, default_channel, default_home, same_channel, Site, queue_at, queue_in, linked_end, ifmp_in, ifmp_of, ifmp_under, Past, frames_of}
use Rattle.world_model.specs.ifmp_wire.declared.message.Message.{Message}
use Rattle.law_frame_readings.specs.ordered_lists.Ordered.{Every}
use Rattle.law_frame_readings.proofs.ordered_lists.Every.{every_left, every_right}
use Rattle.world_model.specs.port_model.Grants.{OutOfRange, Taken}
use Rattle.law_frame_readings.proofs.law_port_facts.Keyed.{on_both}
use Rattle.law_label_line.specs.Cells as lines
use Rattle.law_label_line.specs.Cells.{Role, Downstream, Upstream}
use Rattle.law_label_line.specs.Line.{Line}
use Rattle.law_label_line.specs.Law.{IsOfFlow, IsGrantOf, UsersHaveItsFlow}
use Rattle.law_label_line.proofs.Read.{reached, users_flow}
use Rattle.world_model.specs.Ways.{ok_of}
use Rattle.law_frame_readings.specs.law_port_views.Link.{LinkLabel}
use Rattle.law_frame_readings.specs.law_port_views.Flows.{flow_number}
use Rattle.law_frame_readings.specs.law_port_views.Heard.{is_own, heard_by, names}
use Rattle.law_frame_readings.specs.law_port_views.Shown.{granted, grant_in, GrantShows}
use Rattle.law_frame_readings.proofs.law_port_views.Flows.{same_numbers}
use Rattle.law_frame_readings.proofs.law_port_views.Recalling.{names_own}
use Rattle.law_frame_readings.specs.law_shown_cells.Seen.{Nothing, Word, Unknown, hidden, word}
use Rattle.law_frame_readings.specs.law_shown_cells.Label.{Told, told_in, told_of, seen_payload, seen_packet, seen_message, Where, OnControl, channel_at, on_label, seen, erased, ShowsCells}
use Rattle.law_frame_readings.specs.law_world_views.Shown.{end_of, WorldShows}
use Rattle.law_frame_readings.specs.law_world_views.Pairs.{IsLike}
use Rattle.law_frame_readings.specs.law_world_views.Between.{IsWorld, IsLinkLabel, HasLabelLine}
use Rattle.law_unused_labels.proofs.Seen.{every_contained}

-- *A cell of which a list shows* nothing, or a word of one flow
module _ (place : Where) (by : Role) (link : LinkLabel) (frames : List Frame) (flow : ℕ) where
  data IsFlowing (c : Cell) : Type 0 where
    quiet : seen place by link frames c ≡ Nothing → IsFlowing c
    is_word : (w : lines.Cell) → IsOfFlow flow w → seen place by link frames c ≡ Word (erased w) → IsFlowing c

  flowing_all : (cells : List Cell) (words : List lines.Cell) → ShowsCells place by link frames cells words → Every (IsOfFlow flow) words → Every IsFlowing cells
  flowing_all [] words shows all = tt
  flowing_all (cell ∷ cells) words (hidden e more) all = (quiet e, flowing_all cells words more all)
  flowing_all (cell ∷ cells) (w ∷ words) (word e more) all = (is_word w all.0 e, flowing_all cells words more all.1)

  same_word : (a b : lines.Cell) → Word a ≡ Word b → a ≡ b
  same_word a b e = cc

  labelled_other : (sent : ℕ) (last : Bool) (m : lines.Message) → lines.Labelled sent ≡ lines.Default last m → ⊥
  labelled_other sent last m e = cc e

  said_flow : (c : Cell) (last : Bool) (m : lines.Message) → IsFlowing c → seen place by link frames c ≡ Word (lines.Default last m) → IsOfFlow flow (lines.Default last m)
  said_flow c last m (quiet e) is = absurd (cc (sym e ∙ is))
  said_flow c last m (is_word (lines.Labelled sent) of e) is = absurd (labelled_other 0 last m (same_word (lines.Labelled 0) (lines.Default last m) (sym e ∙ is)))
  said_flow c last m (is_word (lines.Default other n) of e) is = subst (IsOfFlow flow) (same_word (lines.Default other n) (lines.Default last m) (sym e ∙ is)) of

  known : (c : Cell) → IsFlowing c → seen place by link frames c ≡ Unknown → ⊥
  known c (quiet e) is = cc (sym e ∙ is)
  known c (is_word w of e) is = cc (sym e ∙ is)

-- what a message says there
module _ (place : Where) (link : LinkLabel) (frames : List Frame) (flow : ℕ) where
  told_is : (o : Option (List ℕ)) (m : Message) → option_and_then ifmp_in o ≡ Some m → (item : Told) × (option_and_then told_in o ≡ Some item) × (item.message ≡ m)
  told_is None m e = absurd (cc e)
  told_is (Some packet) m e = (record { source = source_of packet; message = m }, ap (option_map (λ message. record { source = source_of packet; message = message })) e, refl)

  word_flow : (c : Cell) (message : Message) (m : lines.Message) → same_channel c.header.channel (channel_at place default_channel) ≡ true → ifmp_under frames c.mark ≡ Some message
      → heard_by Downstream link.label message ≡ Some m → IsFlowing place Downstream link frames flow c → IsOfFlow flow (lines.Default c.header.last m)
  word_flow c message m default says heard q = by (payload_of frames c.mark) refl says
    where
      on_default : seen place Downstream link frames c ≡ seen_payload Downstream link c.header.last (payload_of frames c.mark)
      on_default = ap (λ (b : Bool). if b then seen_payload Downstream link c.header.last (payload_of frames c.mark) else (if same_channel c.header.channel (channel_at place (label_channel_of link.label)) then on_label Downstream else Nothing)) default

      by : (o : Option (List ℕ)) → payload_of frames c.mark ≡ o → option_and_then ifmp_of o ≡ Some message → IsOfFlow flow (lines.Default c.header.last m)
      by None e f = absurd (cc f)
      by (Some payload) e f = in_words (told_is (ok_of (default_unwrapped payload)) message f)
        where
          in_words : (item : Told) × (told_of payload ≡ Some item) × (item.message ≡ message) → IsOfFlow flow (lines.Default c.header.last m)
          in_words (item, is, same) = by_own ((item.source.0 == (link.address Downstream).0) && is_own (link.address Upstream) item.message) refl
            where
              seen_is : seen place Downstream link frames c ≡ (if (item.source.0 == (link.address Downstream).0) && is_own (link.address Upstream) item.message then seen_message c.header.last (heard_by Downstream link.label item.message) else Unknown)
              seen_is = on_default ∙ (ap (seen_payload Downstream link c.header.last) e ∙ ap (seen_packet Downstream link c.header.last) is)

              by_own : (b : Bool) → ((item.source.0 == (link.address Downstream).0) && is_own (link.address Upstream) item.message) ≡ b → IsOfFlow flow (lines.Default c.header.last m)
              by_own true t = said_flow place Downstream link frames flow c c.header.last m q
                  (seen_is ∙ (ap (λ (b : Bool). if b then seen_message c.header.last (heard_by Downstream link.label item.message) else Unknown) t
                  ∙ (ap (λ (x : Message). seen_message c.header.last (heard_by Downstream link.label x)) same ∙ ap (seen_message c.header.last) heard)))
              by_own false t = absurd (known place Downstream link frames flow c q
                  (seen_is ∙ ap (λ (b : Bool). if b then seen_message c.header.last (heard_by Downstream link.label item.message) else Unknown) t))

-- *In a network*, at the upstream end of a link
module _ (past : Past) (world : IsWorld past) (link : LinkLabel) (of : IsLinkLabel past.topology link) (linked : Linked) (there : linked_end past.now (end_of Upstream link) ≡ Some linked) where
  abbrev h : HasLabelLine past link
  h = world.labels link of

  abbrev line : Line
  line = h.line

  abbrev s : WorldShows link (IsLike past.now link) past.now line
  s = h.shows

  flows : UsersHaveItsFlow line
  flows = subst UsersHaveItsFlow h.reached.is (reached UsersHaveItsFlow users_flow h.reached.downstream h.reached.upstream h.reached.fresh h.reached.downstream_drawn h.reached.upstream_drawn h.reached.moves)

  sent : Every (IsOfFlow line.flow) line.to_upstream.to_controller
  sent = every_left (IsOfFlow line.flow) line.to_upstream.to_controller _ (every_right (IsOfFlow line.flow) line.to_upstream.chain _
      (every_right (IsOfFlow line.flow) (lines.cells line.to_downstream) (lines.cells line.to_upstream) flows.sent))

  waiting : (c : Cell) → Contains (queue_at past.now (Up (link.node Upstream))) c → IsFlowing (OnControl (link.port Upstream)) Downstream link (frames_of past) line.flow c
  waiting c has = every_contained (IsFlowing (OnControl (link.port Upstream)) Downstream link (frames_of past) line.flow) (queue_of (s.end Upstream).switch.crossbar control_port) c
      (flowing_all (OnControl (link.port Upstream)) Downstream link (frames_of past) line.flow _ _ (s.net.waiting Upstream) sent)
      (subst (λ (o : Option Site). Contains (option_map_or (λ site. queue_in site (Up (link.node Upstream))) o []) c) (s.found Upstream) has)

  -- its grant is of the flow of the line
  some_same : (x y : Linked) → Some x ≡ Some y → x ≡ y
  some_same x y e = cc

  same_linked : linked ≡ (s.net.end Upstream).linked
  same_linked = some_same linked (s.net.end Upstream).linked (sym there
      ∙ (ap (λ (o : Option Site). option_and_then (λ (c : Controller). linked_at c (link.port Upstream)) (option_map (λ site. site.controller) o)) (s.found Upstream) ∙ (s.net.end Upstream).found))

  granted_flow : (grant : Grant) → at grant_label link.label linked.port.grants ≡ Some grant → flow_number grant.flow ≡ line.flow
  granted_flow grant found = by_state grant.state (subst (IsGrantOf line.flow) shown flows.granted)
    where
      shown : line.grant ≡ granted grant
      shown = subst (λ (o : Option Grant). GrantShows line.upstream.state o line.grant) (ap (λ (x : Linked). at grant_label link.label x.port.grants) (sym same_linked) ∙ found) (s.net.end Upstream).shown.grant

      by_state : (state : GrantState) → IsGrantOf line.flow (grant_in (flow_number grant.flow) state) → flow_number grant.flow ≡ line.flow
      by_state Idle e = e
      by_state ByController e = e
      by_state (ByInput input) e = e
      by_state (Leaving input owed) e = e

  same_flows : (a b : FlowId) → flow_number a ≡ line.flow → flow_number b ≡ line.flow → same_flow a b ≡ true
  same_flows a b e f = sym (same_numbers a b) ∙ number_is (flow_number a) (flow_number b) (e ∙ sym f)
    where
      number_is : (m n : ℕ) → m ≡ n → nat_eq m n ≡ true
      number_is m n e = grind (arith, nat_tests)

  module _ (c : Cell) (waits : Contains (queue_at past.now (Up (link.node Upstream))) c) (on : same_channel c.header.channel (default_home (link.port Upstream)).channel ≡ true)
      (sender peer : Instance) (n : ℕ) (flow : FlowId) (grant : Grant) (found : at grant_label link.label linked.port.grants ≡ Some grant) where
    named : names link.label (label_channel_of link.label) ≡ true
    named = names_own link.label link.label of.label refl

    pub redirect_agrees : (lifetime : ℕ) → ifmp_under (frames_of past) c.mark ≡ Some (Redirect sender peer n lifetime (label_channel_of link.label) flow) → same_flow grant.flow flow ≡ true
    redirect_agrees lifetime says = same_flows grant.flow flow (granted_flow grant found)
        (word_flow (OnControl (link.port Upstream)) link (frames_of past) line.flow c (Redirect sender peer n lifetime (label_channel_of link.label) flow) (lines.Redirect sender.0 peer.0 n (flow_number flow)) on says
        (ap (λ (b : Bool). Some (if b then lines.Redirect sender.0 peer.0 n (flow_number flow) else lines.Other sender.0 peer.0 n)) named) (waiting c waits))

    pub reclaim_agrees : ifmp_under (frames_of past) c.mark ≡ Some (Reclaim sender peer n (label_channel_of link.label) flow) → same_flow grant.flow flow ≡ true
    reclaim_agrees says = same_flows grant.flow flow (granted_flow grant found)
        (word_flow (OnControl (link.port Upstream)) link (frames_of past) line.flow c (Reclaim sender peer n (label_channel_of link.label) flow) (lines.Reclaim sender.0 peer.0 n (flow_number flow)) on says
        (ap (λ (b : Bool). Some (if b then lines.Reclaim sender.0 peer.0 n (flow_number flow) else lines.Other sender.0 peer.0 n)) named) (waiting c waits))

-- *A label that is taken*: its grant is of another flow
pub record IsTaken (setup : Setup) (grants : List Grant) (flow : FlowId) (named : Option ℕ) : Type 0 where
  pub label : ℕ
  pub is : named ≡ Some label
  pub in_range : is_in_range setup label ≡ true
  pub grant : Grant
  pub found : at grant_label label grants ≡ Some grant
  pub other : same_flow grant.flow flow ≡ false

pub taken_is : (setup : Setup) (grants : List Grant) (flow : FlowId) (named : Option ℕ) → acceptance_of setup grants flow named ≡ Taken → IsTaken setup grants flow named
taken_is setup grants flow None e = absurd (cc e)
taken_is setup grants flow (Some label) e = in_range (is_in_range setup label) refl e
  where
    refreshed : (leaving : Bool) (grant : Grant) → (if leaving then IsLeaving else Refreshed grant) ≡ Taken → ⊥
    refreshed true grant f = cc f
    refreshed false grant f = cc f

    of_grant : is_in_range setup label ≡ true → (grant : Grant) → at grant_label label grants ≡ Some grant → (b : Bool) → same_flow grant.flow flow ≡ b
        → (if not b then Taken else (if is_leaving grant.state then IsLeaving else Refreshed grant)) ≡ Taken → IsTaken setup grants flow (Some label)
    of_grant there grant found true t f = absurd (refreshed (is_leaving grant.state) grant f)
    of_grant there grant found false t f = record { label = label; is = refl; in_range = there; grant = grant; found = found; other = t }

    beside : is_in_range setup label ≡ true → (o : Option Grant) → at grant_label label grants ≡ o → acceptance_beside grants label flow o ≡ Taken → IsTaken setup grants flow (Some label)
    beside there None found f = absurd (on_both (λ (a : Acceptance). a ≡ Taken → ⊥) (nat_lt (length grants) most_grants) (New label) GrantsFull (λ g. cc g) (λ g. cc g) f)
    beside there (Some grant) found f = of_grant there grant found (same_flow grant.flow flow) refl f

    in_range : (b : Bool) → is_in_range setup label ≡ b → (if b then acceptance_beside grants label flow (at grant_label label grants) else OutOfRange) ≡ Taken → IsTaken setup grants flow (Some label)
    in_range true there f = beside there (at grant_label label grants) refl f
    in_range false there f = absurd (cc f)
