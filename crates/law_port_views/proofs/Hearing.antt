-- an adjacency message of the other end is heard: the line hears it, or it is lost where the port is to be reset

use Rattle.std.proofs.Common.{◌≡◌, ℕ, Bool, true, false, List, Option, None, Some, refl, sym, ◌∙◌, ap, ap₂, subst, arith, if◌then◌else◌}
use Rattle.std.specs.Prelude.{nat_eq, max, is_some, not, ◌&&◌}
use Rattle.law_port_facts.specs.port_model.Words.{Addr, Peer, Hello, HelloKind, State, Clearing, Said, Answer, Row, Reply, Silent, Says, Resets, row, Side, is_estab, answer_of, SideByInstances, row_for, enters, after_row, is_reset, greeting, router, side_of, said_by, step_by, next_in, Desk, Setup, Session, Work, halts, learns}
use Rattle.law_port_facts.specs.port_model.adjacency_table.Side.{answer_opened as opened_answer}
use Rattle.law_port_facts.specs.port_model.ifmp_wire.declared.message.Message.TheVariants.{Adjacency}
use Rattle.law_port_facts.proofs.Keyed.{on_both}
use Rattle.law_label_line.specs.Cells as lines
use Rattle.law_label_line.specs.Cells.{Role, Downstream, Upstream, Cell}
use Rattle.law_label_line.specs.Line.{Line}
use Rattle.law_label_line.specs.Downstream as down
use Rattle.law_label_line.specs.Upstream as up
use Rattle.law_port_facts.specs.port_model.Adjacency.{steps, greeted}
use Rattle.law_port_views.specs.Link.{LinkLabel, other}
use Rattle.law_port_views.specs.Heard.{is_own}
use Rattle.law_port_views.specs.Shown.{expected_number, known_number, Shown, rest_of}
use Rattle.law_port_views.specs.Reaching.{ReachesFrom, Reaches, Comes, heard, unheard}
use Rattle.law_port_views.proofs.Reach.{stays, next}
use Rattle.law_port_views.proofs.Says.{halts_shown}
use Rattle.law_port_views.proofs.Greets.{turned, replied, noted_open, steps_are, estab_stays, clearing_stays, reset_stays, turns_down, replies_down, turns_up, replies_up, noted_on}
use Rattle.law_port_views.proofs.Hellos.{first_of, step_is, good_is}
use Rattle.law_port_views.proofs.Learns.{knowing, knowing_replied, knowing_open, learns_is, knows_down, learns_from, learns_idle, learns_up}

-- *The table*: a message that is good is one of a side in Estab
clears_estab : (state : State) (kind : HelloKind) (m k : Bool) → (row state kind m k).clears_silence ≡ true → is_estab (row state kind m k).next ≡ true
clears_estab state kind m k e = grind (arith, e)

-- *The port's answer* at a row, before it learns
abbrev answered : Setup → (own far : Addr) → SideByInstances → (silence : ℕ) → Row → (sender receiver : ℕ) → Work → Work
answered setup own far side silence found sender receiver w =
    noted_open setup (enters side found) (replied own far (expected_number w.port.session) (after_row side found sender) sender receiver
    (turned setup w (side_of (router own) (router far) (after_row side found sender) (if found.clears_silence then 0 else silence)) (enters side found)) found.reply)

answered_is : (setup : Setup) (own far : Addr) (side : SideByInstances) (silence : ℕ) (found : Row) (sender receiver : ℕ) (w : Work) → is_reset found.reply ≡ false
    → steps setup w (step_by (router own) (router far) side silence found sender receiver) ≡ answered setup own far side silence found sender receiver w
answered_is setup own far side silence found sender receiver w e =
    steps_are setup own far w (after_row side found sender) (side_of (router own) (router far) (after_row side found sender) (if found.clears_silence then 0 else silence))
    sender receiver found.reply (router own side.own) (enters side found) e

-- at a reset it asks to be reset, and its side stays
abbrev asks_reset : (own far : Addr) → SideByInstances → (silence : ℕ) → Row → (sender : ℕ) → Work → Work
asks_reset own far side silence found sender w = halts (record w {
  port = record w.port { adjacency = side_of (router own) (router far) (after_row side found sender) (if found.clears_silence then 0 else silence) };
})

reset_is : (setup : Setup) (w : Work) (side : Side Peer) (says : HelloKind → Said Peer) (reply : Reply) (instance : Peer) (b : Bool) → is_reset reply ≡ true
    → (let answer : Answer (Said Peer) Peer = answer_of says reply in
    steps setup w (record { side = side; answer = if b then opened_answer instance answer else answer }))
    ≡ halts (record w { port = record w.port { adjacency = side } })
reset_is setup w side says Silent instance b e = absurd (cc e)
reset_is setup w side says (Says kind) instance b e = absurd (cc e)
reset_is setup w side says Resets instance true e = refl
reset_is setup w side says Resets instance false e = refl

asks_reset_is : (setup : Setup) (own far : Addr) (side : SideByInstances) (silence : ℕ) (found : Row) (sender receiver : ℕ) (w : Work) → is_reset found.reply ≡ true
    → steps setup w (step_by (router own) (router far) side silence found sender receiver) ≡ asks_reset own far side silence found sender w
asks_reset_is setup own far side silence found sender receiver w e =
    reset_is setup w (side_of (router own) (router far) (after_row side found sender) (if found.clears_silence then 0 else silence))
    (λ kind. greeting (said_by (router own) (router far)) (after_row side found sender) kind sender receiver) found.reply (router own side.own) (enters side found) e

same_after : (side : SideByInstances) (found : Row) (sender : ℕ) → found.next ≡ side.state → found.stores ≡ false → after_row side found sender ≡ side
same_after side found sender next stores = λ i. record side { state = next i; stored = if stores i then sender else side.stored }

-- *What a message makes of a port*, at its row
greeted_is : (setup : Setup) (desk : Desk) (own far : Addr) (side : SideByInstances) (w v : Work) (source : Addr) (hello : Hello)
    → w.port.adjacency ≡ side_of (router own) (router far) side w.port.adjacency.silence → source ≡ far → is_own own (Adjacency hello) ≡ true
    → (let found : Row = row_for side hello.kind hello.sender.0 hello.peer.0 in
    steps setup w (step_by (router own) (router far) side w.port.adjacency.silence found hello.sender.0 hello.peer.0) ≡ v
    → greeted setup desk w source hello ≡ (if found.clears_silence && down.is_ack hello.kind then learns setup desk v hello.next else v))
greeted_is setup desk own far side w v source hello same from mine is =
    ap₂ (λ (good : Bool) (u : Work). if good then learns setup desk u hello.next else u)
    (good_is own far side w.port.adjacency.silence w.port.adjacency source hello same from mine)
    (ap (steps setup w) (step_is own far side w.port.adjacency.silence w.port.adjacency source hello same from mine) ∙ is)

module _ (link : LinkLabel) (like : Type 0) (queued : List Cell) where
  -- *A port with its side as it was*
  pub sided_down : (w : Work) (line : Line) (a : Side Peer) → a ≡ side_of (router (link.address Downstream)) (router (link.address Upstream)) line.downstream a.silence
      → Shown Downstream link like queued w line → Shown Downstream link like queued (record w { port = record w.port { adjacency = a } }) line
  sided_down w line a e h = record {
    side = e;
    session = h.session;
    label = h.label;
    flow = h.flow;
    number = h.number;
    unspent = h.unspent;
    known = h.known;
    reassembled = h.reassembled;
    drawn = h.drawn;
    own = h.own;
    sent = h.sent;
  }

  pub sided_up : (w : Work) (line : Line) (a : Side Peer) → a ≡ side_of (router (link.address Upstream)) (router (link.address Downstream)) line.upstream a.silence
      → Shown Upstream link like queued w line → Shown Upstream link like queued (record w { port = record w.port { adjacency = a } }) line
  sided_up w line a e h = record {
    side = e;
    session = h.session;
    grant = h.grant;
    once = h.once;
    lent = h.lent;
    expected = h.expected;
    drawn = h.drawn;
    own = h.own;
    sent = h.sent;
  }

  -- *A reset* is asked, and the message is lost; what the port learns then is nothing
  lost_down : (setup : Setup) (desk : Desk) (w : Work) (line : Line) (found : Row) (sender silence n : ℕ) (good : Bool)
      → found.next ≡ line.downstream.state → found.stores ≡ false → Shown Downstream link like queued w line
      → (let v : Work = asks_reset (link.address Downstream) (link.address Upstream) line.downstream silence found sender w in
      Reaches Downstream link like queued (if good then learns setup desk v n else v) line)
  lost_down setup desk w line found sender silence n good state stores h =
      let quiet : ℕ = if found.clears_silence then 0 else silence in
      let a : Side Peer = side_of (router (link.address Downstream)) (router (link.address Upstream)) (after_row line.downstream found sender) quiet in
      let u : Work = record w { port = record w.port { adjacency = a } } in
      let k : Shown Downstream link like queued (halts u) line = halts_shown link like queued Downstream u line (sided_down w line a
      (ap (λ (z : SideByInstances). side_of (router (link.address Downstream)) (router (link.address Upstream)) z quiet) (same_after line.downstream found sender state stores)) h) in
      on_both (λ (v : Work). Reaches Downstream link like queued v line) good (learns setup desk (halts u) n) (halts u)
      (learns_idle link like queued Downstream setup desk (halts u) n refl line k) (stays Downstream link like queued (halts u) line k)

  lost_up : (setup : Setup) (desk : Desk) (w : Work) (line : Line) (found : Row) (sender silence n : ℕ) (good : Bool)
      → found.next ≡ line.upstream.state → found.stores ≡ false → Shown Upstream link like queued w line
      → (let v : Work = asks_reset (link.address Upstream) (link.address Downstream) line.upstream silence found sender w in
      Reaches Upstream link like queued (if good then learns setup desk v n else v) line)
  lost_up setup desk w line found sender silence n good state stores h =
      let quiet : ℕ = if found.clears_silence then 0 else silence in
      let a : Side Peer = side_of (router (link.address Upstream)) (router (link.address Downstream)) (after_row line.upstream found sender) quiet in
      let u : Work = record w { port = record w.port { adjacency = a } } in
      let k : Shown Upstream link like queued (halts u) line = halts_shown link like queued Upstream u line (sided_up w line a
      (ap (λ (z : SideByInstances). side_of (router (link.address Upstream)) (router (link.address Downstream)) z quiet) (same_after line.upstream found sender state stores)) h) in
      on_both (λ (v : Work). Reaches Upstream link like queued v line) good (learns setup desk (halts u) n) (halts u)
      (learns_idle link like queued Upstream setup desk (halts u) n refl line k) (stays Upstream link like queued (halts u) line k)

  -- *The end that hands the label out*: the line follows the row, learns and replies
  follows_rest : (b : Bool) (line : Line) (side : SideByInstances)
      → rest_of Downstream (record (if b then down.opens line else line) { downstream = side }) ≡ rest_of Downstream line
  follows_rest true line side = refl
  follows_rest false line side = refl

  learns_down : (setup : Setup) (desk : Desk) (b : Bool) (t : Work) (line other_line : Line) (expected sender receiver n : ℕ) (reply : Reply) (o : Option Session) (good : Bool)
      → t.halted ≡ false → t.port.session ≡ o → (good ≡ true → is_some o ≡ true) → is_reset reply ≡ false
      → rest_of Downstream line ≡ rest_of Downstream other_line → Shown Downstream link like queued t line
      → (let v : Work = noted_open setup b (replied (link.address Downstream) (link.address Upstream) expected line.downstream sender receiver t reply) in
      ReachesFrom Downstream link like queued (if good then learns setup desk v n else v) (down.replies_downstream (down.learns line good n) reply sender receiver) other_line)
  learns_down setup desk b t line other_line expected sender receiver n reply o false live opened some e rest h =
      noted_on link like queued Downstream setup b (replied (link.address Downstream) (link.address Upstream) expected line.downstream sender receiver t reply)
      (down.replies_downstream line reply sender receiver) other_line
      (replies_down link like queued t line expected sender receiver reply other_line e rest h)
  learns_down setup desk b t line other_line expected sender receiver n reply None true live opened some e rest h = absurd (cc (some refl))
  learns_down setup desk b t line other_line expected sender receiver n reply (Some s) true live opened some e rest h =
      let own : Addr = link.address Downstream in
      let far : Addr = link.address Upstream in
      let known : Line = record line { known = max s.known n } in
      let r : Work = replied own far expected line.downstream sender receiver t reply in
      let v : Work = noted_open setup b r in
      let start : Line = down.replies_downstream (down.learns line true n) reply sender receiver in
      next Downstream link like queued (knowing n v) (learns setup desk v n) start other_line
      (subst (λ (z : Line). ReachesFrom Downstream link like queued (knowing n v) (down.replies_downstream z reply sender receiver) other_line)
      (sym (learns_is line s.known n (h.known ∙ ap known_number opened)))
      (subst (λ (u : Work). ReachesFrom Downstream link like queued u (down.replies_downstream known reply sender receiver) other_line)
      (sym (knowing_open n setup b r ∙ ap (noted_open setup b) (knowing_replied n own far expected line.downstream sender receiver t reply)))
      (noted_on link like queued Downstream setup b (replied own far expected line.downstream sender receiver (knowing n t) reply)
      (down.replies_downstream known reply sender receiver) other_line
      (replies_down link like queued (knowing n t) known expected sender receiver reply other_line e rest (knows_down link like queued t s n line live opened h)))))
      (learns_from link like queued Downstream setup desk v n)

  answers_down : (setup : Setup) (desk : Desk) (w : Work) (line : Line) (found : Row) (sender receiver silence n : ℕ) (good : Bool)
      → w.halted ≡ false → is_reset found.reply ≡ false → (is_estab line.downstream.state ≡ true → is_estab found.next ≡ true)
      → (good ≡ true → is_estab found.next ≡ true) → Shown Downstream link like queued w line
      → (let v : Work = answered setup (link.address Downstream) (link.address Upstream) line.downstream silence found sender receiver w in
      ReachesFrom Downstream link like queued (if good then learns setup desk v n else v)
      (down.replies_downstream (down.learns (down.follows_downstream line found sender) good n) found.reply sender receiver) line)
  answers_down setup desk w line found sender receiver silence n good live e keeps estab h =
      let b : Bool = enters line.downstream found in
      let a : Side Peer = side_of (router (link.address Downstream)) (router (link.address Upstream)) (after_row line.downstream found sender) (if found.clears_silence then 0 else silence) in
      let t : Work = turned setup w a b in
      let k : Shown Downstream link like queued t (down.follows_downstream line found sender)
      = turns_down link like queued setup w line found sender (if found.clears_silence then 0 else silence) b keeps refl h in
      learns_down setup desk b t (down.follows_downstream line found sender) line (expected_number w.port.session) sender receiver n found.reply t.port.session good
      live refl (λ g. k.session ∙ estab g) e (follows_rest b line (after_row line.downstream found sender)) k

  -- *The other end*: the line follows the row and replies
  entered_expected : (o : Option Session) (state : State) (b : Bool) (after : State) (n : ℕ) → b ≡ (not (is_estab state) && is_estab after) → is_some o ≡ is_estab state
      → n ≡ expected_number o → expected_number o ≡ (if b then 1 else n)
  entered_expected o state false after n e same is = sym is
  entered_expected None state true after n e same is = refl
  entered_expected (Some s) state true after n e same is = absurd (no (is_estab state) (is_estab after) e same)
    where
      no : (x y : Bool) → true ≡ (not x && y) → true ≡ x → ⊥
      no true y f g = cc f
      no false y f g = cc g

  answers_up : (setup : Setup) (desk : Desk) (w : Work) (line : Line) (found : Row) (sender receiver silence n : ℕ) (good : Bool)
      → is_reset found.reply ≡ false → (is_estab line.upstream.state ≡ true → is_estab found.next ≡ true)
      → (line.upstream.state ≡ Clearing → found.next ≡ Clearing) → Shown Upstream link like queued w line
      → (let v : Work = answered setup (link.address Upstream) (link.address Downstream) line.upstream silence found sender receiver w in
      ReachesFrom Upstream link like queued (if good then learns setup desk v n else v)
      (up.replies_upstream (up.follows_upstream line found sender) found.reply sender receiver) line)
  answers_up setup desk w line found sender receiver silence n good e keeps clearing h =
      let b : Bool = enters line.upstream found in
      let quiet : ℕ = if found.clears_silence then 0 else silence in
      let a : Side Peer = side_of (router (link.address Upstream)) (router (link.address Downstream)) (after_row line.upstream found sender) quiet in
      let t : Work = turned setup w a b in
      let r : Work = replied (link.address Upstream) (link.address Downstream) (expected_number w.port.session) (after_row line.upstream found sender) sender receiver t found.reply in
      let v : Work = noted_open setup b r in
      let start : Line = up.replies_upstream (up.follows_upstream line found sender) found.reply sender receiver in
      let first : ReachesFrom Upstream link like queued v start line
      = noted_on link like queued Upstream setup b r start line
      (replies_up link like queued t (up.follows_upstream line found sender) (expected_number w.port.session) sender receiver found.reply line e
      (entered_expected w.port.session line.upstream.state b found.next line.expected refl h.session h.expected) refl
      (turns_up link like queued setup w line found sender quiet b keeps clearing refl h)) in
      on_both (λ (z : Work). ReachesFrom Upstream link like queued z start line) good (learns setup desk v n) v
      (next Upstream link like queued v (learns setup desk v n) start line first (learns_up link like queued setup desk v n)) first

  -- *It is heard*
  comes_down : (setup : Setup) (desk : Desk) (w : Work) (source : Addr) (hello : Hello) (line : Line) (b : Bool)
      → w.halted ≡ false → source ≡ link.address Upstream → is_own (link.address Downstream) (Adjacency hello) ≡ true
      → is_reset (row_for line.downstream hello.kind hello.sender.0 hello.peer.0).reply ≡ b → Shown Downstream link like queued w line
      → Comes Downstream link like queued (greeted setup desk w source hello) (Adjacency hello) line
  comes_down setup desk w source hello line true live from mine reset h =
      let own : Addr = link.address Downstream in
      let far : Addr = link.address Upstream in
      let side : SideByInstances = line.downstream in
      let found : Row = row_for side hello.kind hello.sender.0 hello.peer.0 in
      let v : Work = asks_reset own far side w.port.adjacency.silence found hello.sender.0 w in
      let same : (found.next ≡ side.state) × (found.stores ≡ false)
      = reset_stays side.state hello.kind (nat_eq hello.peer.0 side.own) (nat_eq hello.sender.0 side.stored) reset in
      unheard (subst (λ (z : Work). Reaches Downstream link like queued z line)
      (sym (greeted_is setup desk own far side w v source hello h.side from mine
      (asks_reset_is setup own far side w.port.adjacency.silence found hello.sender.0 hello.peer.0 w reset)))
      (lost_down setup desk w line found hello.sender.0 w.port.adjacency.silence hello.next (found.clears_silence && down.is_ack hello.kind) same.0 same.1 h))
  comes_down setup desk w source hello line false live from mine goes h =
      let own : Addr = link.address Downstream in
      let far : Addr = link.address Upstream in
      let side : SideByInstances = line.downstream in
      let found : Row = row_for side hello.kind hello.sender.0 hello.peer.0 in
      let v : Work = answered setup own far side w.port.adjacency.silence found hello.sender.0 hello.peer.0 w in
      let good : Bool = found.clears_silence && down.is_ack hello.kind in
      let start : Line = down.replies_downstream (down.learns (down.follows_downstream line found hello.sender.0) good hello.next) found.reply hello.sender.0 hello.peer.0 in
      heard (lines.Hello Upstream hello.kind hello.sender.0 hello.peer.0 hello.next) true 0 refl
      (subst (λ (z : Work). ReachesFrom Downstream link like queued z (down.greeted_downstream line found hello.kind hello.sender.0 hello.peer.0 hello.next 0) line)
      (sym (greeted_is setup desk own far side w v source hello h.side from mine
      (answered_is setup own far side w.port.adjacency.silence found hello.sender.0 hello.peer.0 w goes)))
      (subst (λ (t : Bool). ReachesFrom Downstream link like queued (if good then learns setup desk v hello.next else v)
      (if t then down.resets_downstream line 0 else start) line) (sym goes)
      (answers_down setup desk w line found hello.sender.0 hello.peer.0 w.port.adjacency.silence hello.next good live goes
      (estab_stays side.state hello.kind (nat_eq hello.peer.0 side.own) (nat_eq hello.sender.0 side.stored))
      (λ g. clears_estab side.state hello.kind (nat_eq hello.peer.0 side.own) (nat_eq hello.sender.0 side.stored) (first_of found.clears_silence (down.is_ack hello.kind) g)) h)))

  comes_up : (setup : Setup) (desk : Desk) (w : Work) (source : Addr) (hello : Hello) (line : Line) (b : Bool)
      → source ≡ link.address Downstream → is_own (link.address Upstream) (Adjacency hello) ≡ true
      → is_reset (row_for line.upstream hello.kind hello.sender.0 hello.peer.0).reply ≡ b → Shown Upstream link like queued w line
      → Comes Upstream link like queued (greeted setup desk w source hello) (Adjacency hello) line
  comes_up setup desk w source hello line true from mine reset h =
      let own : Addr = link.address Upstream in
      let far : Addr = link.address Downstream in
      let side : SideByInstances = line.upstream in
      let found : Row = row_for side hello.kind hello.sender.0 hello.peer.0 in
      let v : Work = asks_reset own far side w.port.adjacency.silence found hello.sender.0 w in
      let same : (found.next ≡ side.state) × (found.stores ≡ false)
      = reset_stays side.state hello.kind (nat_eq hello.peer.0 side.own) (nat_eq hello.sender.0 side.stored) reset in
      unheard (subst (λ (z : Work). Reaches Upstream link like queued z line)
      (sym (greeted_is setup desk own far side w v source hello h.side from mine
      (asks_reset_is setup own far side w.port.adjacency.silence found hello.sender.0 hello.peer.0 w reset)))
      (lost_up setup desk w line found hello.sender.0 w.port.adjacency.silence hello.next (found.clears_silence && down.is_ack hello.kind) same.0 same.1 h))
  comes_up setup desk w source hello line false from mine goes h =
      let own : Addr = link.address Upstream in
      let far : Addr = link.address Downstream in
      let side : SideByInstances = line.upstream in
      let found : Row = row_for side hello.kind hello.sender.0 hello.peer.0 in
      let v : Work = answered setup own far side w.port.adjacency.silence found hello.sender.0 hello.peer.0 w in
      let good : Bool = found.clears_silence && down.is_ack hello.kind in
      let start : Line = up.replies_upstream (up.follows_upstream line found hello.sender.0) found.reply hello.sender.0 hello.peer.0 in
      heard (lines.Hello Downstream hello.kind hello.sender.0 hello.peer.0 (next_in hello.kind 1)) true 0 refl
      (subst (λ (z : Work). ReachesFrom Upstream link like queued z (up.greeted_upstream line found hello.sender.0 hello.peer.0 0) line)
      (sym (greeted_is setup desk own far side w v source hello h.side from mine
      (answered_is setup own far side w.port.adjacency.silence found hello.sender.0 hello.peer.0 w goes)))
      (subst (λ (t : Bool). ReachesFrom Upstream link like queued (if good then learns setup desk v hello.next else v)
      (if t then up.resets_upstream line 0 else start) line) (sym goes)
      (answers_up setup desk w line found hello.sender.0 hello.peer.0 w.port.adjacency.silence hello.next good goes
      (estab_stays side.state hello.kind (nat_eq hello.peer.0 side.own) (nat_eq hello.sender.0 side.stored))
      (clearing_stays side.state hello.kind (nat_eq hello.peer.0 side.own) (nat_eq hello.sender.0 side.stored)) h)))

  pub hello_comes : (role : Role) (setup : Setup) (desk : Desk) (w : Work) (source : Addr) (hello : Hello) (line : Line)
      → w.halted ≡ false → source ≡ link.address (other role) → is_own (link.address role) (Adjacency hello) ≡ true → Shown role link like queued w line
      → Comes role link like queued (greeted setup desk w source hello) (Adjacency hello) line
  hello_comes Downstream setup desk w source hello line live from mine h =
      comes_down setup desk w source hello line (is_reset (row_for line.downstream hello.kind hello.sender.0 hello.peer.0).reply) live from mine refl h
  hello_comes Upstream setup desk w source hello line live from mine h =
      comes_up setup desk w source hello line (is_reset (row_for line.upstream hello.kind hello.sender.0 hello.peer.0).reply) from mine refl h
