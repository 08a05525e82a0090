-- an adjacency message of the other end comes, or a tick: the side follows the table, and the line with it

use Rattle.std.proofs.Common.{◌≡◌, ℕ, Bool, true, false, List, [], ◌∷◌, ◌++◌, Option, None, Some, inl, inr, refl, sym, ◌∙◌, ap, arith, if◌then◌else◌}
use Rattle.std.specs.Prelude.{not, ◌&&◌, ◌==◌}
use Rattle.std.proofs.lemmas.Bool.Decides.{nat_tests}
use Rattle.law_port_facts.specs.port_model.Words.{Addr, Peer, Hello, HelloKind, Syn, Synack, Rstack, Ack, State, Clearing, SynSent, SynRcvd, Estab, Said, Answer, Row, Reply, Silent, Says, Resets, row, Side, is_estab, answer_of, SideByInstances, enters, after_row, is_reset, greeting, router, side_of, said_by, hello_of, Opened, at, Setup, Grant, grant_label, Work, greets, first_session, opens}
use Rattle.law_port_facts.specs.port_model.adjacency_table.Side.{answer_opened as opened_answer}
use Rattle.law_port_facts.specs.port_model.ifmp_wire.declared.message.Message.TheVariants.{Adjacency}
use Rattle.law_label_line.specs.Cells.{Role, Downstream, Upstream, Cell, hello}
use Rattle.law_label_line.specs.Line.{Line}
use Rattle.law_label_line.specs.Downstream as down
use Rattle.law_label_line.specs.Upstream as up
use Rattle.law_port_facts.specs.port_model.declared.action.Action.TheVariants.{Say, Note}
use Rattle.law_port_facts.specs.port_model.Port.{with_action}
use Rattle.law_port_facts.specs.port_model.Adjacency.{steps}
use Rattle.law_port_views.specs.Link.{LinkLabel}
use Rattle.law_port_views.specs.Heard.{heard_down, heard_up, is_own}
use Rattle.law_port_views.specs.Shown.{GrantShows, expected_number, Shown, rest_of}
use Rattle.law_port_views.specs.Reaching.{ReachesFrom}
use Rattle.law_port_views.proofs.Reach.{begins, aside, next, stays}
use Rattle.law_port_views.proofs.Says.{IsQuiet, acts_quiet, acts_said}

-- *The table*
pub estab_stays : (state : State) (kind : HelloKind) (m k : Bool) → is_estab state ≡ true → is_estab (row state kind m k).next ≡ true
estab_stays state kind m k e = grind (arith, e)

pub clearing_stays : (state : State) (kind : HelloKind) (m k : Bool) → state ≡ Clearing → (row state kind m k).next ≡ Clearing
clearing_stays state kind m k e = ap (λ (z : State). (row z kind m k).next) e

-- a reset leaves the side to its new instance
pub reset_stays : (state : State) (kind : HelloKind) (m k : Bool) → is_reset (row state kind m k).reply ≡ true
    → ((row state kind m k).next ≡ state) × ((row state kind m k).stores ≡ false)
reset_stays Clearing kind m k e = absurd (cc e)
reset_stays SynSent Syn m k e = absurd (cc e)
reset_stays SynSent Synack true k e = absurd (cc e)
reset_stays SynSent Synack false k e = absurd (cc e)
reset_stays SynSent Ack m k e = absurd (cc e)
reset_stays SynSent Rstack m k e = absurd (cc e)
reset_stays SynRcvd Syn m k e = absurd (cc e)
reset_stays SynRcvd Synack true k e = absurd (cc e)
reset_stays SynRcvd Synack false k e = absurd (cc e)
reset_stays SynRcvd Ack true true e = absurd (cc e)
reset_stays SynRcvd Ack true false e = absurd (cc e)
reset_stays SynRcvd Ack false k e = absurd (cc e)
reset_stays SynRcvd Rstack m k e = (refl, refl)
reset_stays Estab Syn m k e = absurd (cc e)
reset_stays Estab Synack m k e = absurd (cc e)
reset_stays Estab Ack true true e = absurd (cc e)
reset_stays Estab Ack true false e = absurd (cc e)
reset_stays Estab Ack false k e = absurd (cc e)
reset_stays Estab Rstack m k e = (refl, refl)

-- *What the port says* is what the line says
same_address : (a : Addr) → (a.0 == a.0) ≡ true
same_address a = grind (arith, nat_tests)

abbrev pub says_hello : (own far : Addr) → (expected : ℕ) → SideByInstances → HelloKind → (sender receiver : ℕ) → Hello
says_hello own far expected side kind sender receiver = hello_of expected (greeting (said_by (router own) (router far)) side kind sender receiver)

hello_own : (own far : Addr) (expected : ℕ) (side : SideByInstances) (kind : HelloKind) (sender receiver : ℕ)
    → is_own far (Adjacency (says_hello own far expected side kind sender receiver)) ≡ true
hello_own own far expected side Syn sender receiver = refl
hello_own own far expected side Synack sender receiver = same_address far
hello_own own far expected side Rstack sender receiver = ap (λ (b : Bool). b && (0 == 0)) (same_address far)
hello_own own far expected side Ack sender receiver = same_address far

hello_down : (label : ℕ) (own far : Addr) (expected : ℕ) (side : SideByInstances) (kind : HelloKind) (sender receiver : ℕ)
    → heard_down label (Adjacency (says_hello own far expected side kind sender receiver)) ≡ Some (hello Downstream 1 side kind sender receiver)
hello_down label own far expected side Syn sender receiver = refl
hello_down label own far expected side Synack sender receiver = refl
hello_down label own far expected side Rstack sender receiver = refl
hello_down label own far expected side Ack sender receiver = refl

hello_up : (label : ℕ) (own far : Addr) (expected : ℕ) (side : SideByInstances) (kind : HelloKind) (sender receiver : ℕ)
    → heard_up label (Adjacency (says_hello own far expected side kind sender receiver)) ≡ Some (hello Upstream expected side kind sender receiver)
hello_up label own far expected side Syn sender receiver = refl
hello_up label own far expected side Synack sender receiver = refl
hello_up label own far expected side Rstack sender receiver = refl
hello_up label own far expected side Ack sender receiver = refl

-- *The port at a row*: its side, and the session that it begins on entering Estab
abbrev pub turned : Setup → Work → Side Peer → Bool → Work
turned setup w side enters =
    record w { port = record w.port { adjacency = side; session = if enters then Some (first_session setup) else w.port.session } }

abbrev pub replied : (own far : Addr) → (expected : ℕ) → SideByInstances → (sender receiver : ℕ) → Work → Reply → Work
replied own far expected side sender receiver w Silent = w
replied own far expected side sender receiver w (Says kind) = greets w (says_hello own far expected side kind sender receiver)
replied own far expected side sender receiver w Resets = w

abbrev pub noted_open : Setup → Bool → Work → Work
noted_open setup enters w = if enters then with_action w (Note (Opened setup.node setup.port)) else w

-- on entering Estab the session begins behind what is said, which is the same
opens_behind : (setup : Setup) (w : Work) (m : Hello)
    → opens setup (greets w m) ≡ with_action (greets (record w { port = record w.port { session = Some (first_session setup) } }) m) (Note (Opened setup.node setup.port))
opens_behind setup w m =
    ap (λ (v : Work). with_action v (Note (Opened setup.node setup.port)))
    (elim (w.halted) as (λ b. (let said : Work = if b then w else record w { actions = w.actions ++ Say (Adjacency m) ∷ [] } in
    ◌≡◌ {A = Work} (record said { port = record said.port { session = Some (first_session setup) } })
    (if b then record w { port = record w.port { session = Some (first_session setup) } }
    else record w { port = record w.port { session = Some (first_session setup) }; actions = w.actions ++ Say (Adjacency m) ∷ [] }))) [
      | true ↦ refl
      | false ↦ refl
    ])

pub steps_are : (setup : Setup) (own far : Addr) (w : Work) (after : SideByInstances) (side : Side Peer) (sender receiver : ℕ) (reply : Reply) (instance : Peer) (b : Bool)
    → is_reset reply ≡ false
    → (let answer : Answer (Said Peer) Peer = answer_of (λ kind. greeting (said_by (router own) (router far)) after kind sender receiver) reply in
    steps setup w (record { side = side; answer = if b then opened_answer instance answer else answer }))
    ≡ noted_open setup b (replied own far (expected_number w.port.session) after sender receiver (turned setup w side b) reply)
steps_are setup own far w after side sender receiver Silent instance true e = refl
steps_are setup own far w after side sender receiver Silent instance false e = refl
steps_are setup own far w after side sender receiver (Says kind) instance true e =
    opens_behind setup (record w { port = record w.port { adjacency = side } }) (says_hello own far (expected_number w.port.session) after kind sender receiver)
steps_are setup own far w after side sender receiver (Says kind) instance false e = refl
steps_are setup own far w after side sender receiver Resets instance b e = absurd (cc e)

module _ (link : LinkLabel) (like : Type 0) (queued : List Cell) where
  note_quiet : (role : Role) (setup : Setup) → IsQuiet role link (Note (Opened setup.node setup.port))
  note_quiet role setup = record { none = refl; own = tt }

  pub opened_shown : (role : Role) (setup : Setup) (b : Bool) (w : Work) (line : Line) → Shown role link like queued w line → Shown role link like queued (noted_open setup b w) line
  opened_shown role setup true w line s = acts_quiet link like queued role w (Note (Opened setup.node setup.port)) line (note_quiet role setup) s
  opened_shown role setup false w line s = s

  -- *The end that hands the label out*
  pub turns_down : (setup : Setup) (w : Work) (line : Line) (found : Row) (sender silence : ℕ) (b : Bool)
      → (is_estab line.downstream.state ≡ true → is_estab found.next ≡ true) → b ≡ enters line.downstream found
      → Shown Downstream link like queued w line
      → Shown Downstream link like queued
      (turned setup w (side_of (router (link.address Downstream)) (router (link.address Upstream)) (after_row line.downstream found sender) silence) b)
      (record (if b then down.opens line else line) { downstream = after_row line.downstream found sender })
  turns_down setup w line found sender silence true keeps e h = record {
    side = refl;
    session = sym (entered (is_estab line.downstream.state) (is_estab found.next) (sym e));
    label = refl;
    flow = refl;
    number = refl;
    unspent = omega arith;
    known = refl;
    reassembled = refl;
    drawn = h.drawn;
    own = h.own;
    sent = h.sent;
  }
    where
      entered : (x y : Bool) → (not x && y) ≡ true → y ≡ true
      entered true y f = absurd (cc f)
      entered false y f = f
  turns_down setup w line found sender silence false keeps e h = record {
    side = refl;
    session = h.session ∙ same (is_estab line.downstream.state) (is_estab found.next) keeps (sym e);
    label = h.label;
    flow = h.flow;
    number = h.number;
    unspent = h.unspent;
    known = h.known;
    reassembled = h.reassembled;
    drawn = h.drawn;
    own = h.own;
    sent = h.sent;
  }
    where
      same : (x y : Bool) → (x ≡ true → y ≡ true) → (not x && y) ≡ false → x ≡ y
      same true y f g = sym (f refl)
      same false y f g = sym g

  pub replies_down : (w : Work) (line : Line) (expected sender receiver : ℕ) (reply : Reply) (other_line : Line) → is_reset reply ≡ false
      → rest_of Downstream line ≡ rest_of Downstream other_line → Shown Downstream link like queued w line
      → ReachesFrom Downstream link like queued (replied (link.address Downstream) (link.address Upstream) expected line.downstream sender receiver w reply)
      (down.replies_downstream line reply sender receiver) other_line
  replies_down w line expected sender receiver Silent other_line e rest h = begins Downstream link like queued w line other_line h rest
  replies_down w line expected sender receiver Resets other_line e rest h = absurd (cc e)
  replies_down w line expected sender receiver (Says kind) other_line e rest h =
      let m : Hello = says_hello (link.address Downstream) (link.address Upstream) expected line.downstream kind sender receiver in
      aside Downstream link like queued (greets w m) (down.replies_downstream line (Says kind) sender receiver) line other_line rest
      (acts_said link like queued Downstream w (Adjacency m) (hello Downstream 1 line.downstream kind sender receiver) line
      (hello_down link.label (link.address Downstream) (link.address Upstream) expected line.downstream kind sender receiver)
      (hello_own (link.address Downstream) (link.address Upstream) expected line.downstream kind sender receiver) h)

  -- *The other end*
  pub turns_up : (setup : Setup) (w : Work) (line : Line) (found : Row) (sender silence : ℕ) (b : Bool)
      → (is_estab line.upstream.state ≡ true → is_estab found.next ≡ true) → (line.upstream.state ≡ Clearing → found.next ≡ Clearing) → b ≡ enters line.upstream found
      → Shown Upstream link like queued w line
      → Shown Upstream link like queued
      (turned setup w (side_of (router (link.address Upstream)) (router (link.address Downstream)) (after_row line.upstream found sender) silence) b)
      (record line { upstream = after_row line.upstream found sender; expected = if b then 1 else line.expected })
  turns_up setup w line found sender silence true keeps clearing e h = record {
    side = refl;
    session = sym (entered (is_estab line.upstream.state) (is_estab found.next) (sym e));
    grant = still (at grant_label link.label w.port.grants) h.grant;
    once = h.once;
    lent = h.lent;
    expected = refl;
    drawn = h.drawn;
    own = h.own;
    sent = h.sent;
  }
    where
      entered : (x y : Bool) → (not x && y) ≡ true → y ≡ true
      entered true y f = absurd (cc f)
      entered false y f = f

      still : (o : Option Grant) → GrantShows line.upstream.state o line.grant → GrantShows found.next o line.grant
      still None (inl none) = inl none
      still None (inr left) = inr (left.0, clearing left.1)
      still (Some grant) is = is
  turns_up setup w line found sender silence false keeps clearing e h = record {
    side = refl;
    session = h.session ∙ same (is_estab line.upstream.state) (is_estab found.next) keeps (sym e);
    grant = still (at grant_label link.label w.port.grants) h.grant;
    once = h.once;
    lent = h.lent;
    expected = h.expected;
    drawn = h.drawn;
    own = h.own;
    sent = h.sent;
  }
    where
      same : (x y : Bool) → (x ≡ true → y ≡ true) → (not x && y) ≡ false → x ≡ y
      same true y f g = sym (f refl)
      same false y f g = sym g

      still : (o : Option Grant) → GrantShows line.upstream.state o line.grant → GrantShows found.next o line.grant
      still None (inl none) = inl none
      still None (inr left) = inr (left.0, clearing left.1)
      still (Some grant) is = is

  pub replies_up : (w : Work) (line : Line) (expected sender receiver : ℕ) (reply : Reply) (other_line : Line) → is_reset reply ≡ false → expected ≡ line.expected
      → rest_of Upstream line ≡ rest_of Upstream other_line → Shown Upstream link like queued w line
      → ReachesFrom Upstream link like queued (replied (link.address Upstream) (link.address Downstream) expected line.upstream sender receiver w reply)
      (up.replies_upstream line reply sender receiver) other_line
  replies_up w line expected sender receiver Silent other_line e is rest h = begins Upstream link like queued w line other_line h rest
  replies_up w line expected sender receiver Resets other_line e is rest h = absurd (cc e)
  replies_up w line expected sender receiver (Says kind) other_line e is rest h =
      let m : Hello = says_hello (link.address Upstream) (link.address Downstream) expected line.upstream kind sender receiver in
      aside Upstream link like queued (greets w m) (up.replies_upstream line (Says kind) sender receiver) line other_line rest
      (acts_said link like queued Upstream w (Adjacency m) (hello Upstream line.expected line.upstream kind sender receiver) line
      (hello_up link.label (link.address Upstream) (link.address Downstream) expected line.upstream kind sender receiver
      ∙ ap (λ (n : ℕ). Some (hello Upstream n line.upstream kind sender receiver)) is)
      (hello_own (link.address Upstream) (link.address Downstream) expected line.upstream kind sender receiver) h)

  pub noted_on : (role : Role) (setup : Setup) (b : Bool) (w : Work) (start line : Line) → ReachesFrom role link like queued w start line
      → ReachesFrom role link like queued (noted_open setup b w) start line
  noted_on role setup b w start line r = next role link like queued w (noted_open setup b w) start line r
      (λ z s. stays role link like queued (noted_open setup b w) z (opened_shown role setup b w z s))
