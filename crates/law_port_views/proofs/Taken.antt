-- a redirection message of the other end is taken: the line takes it, and expects the next

use Rattle.std.proofs.Common.{◌≡◌, ℕ, Bool, true, false, List, [], Option, None, Some, refl, sym, ◌∙◌, ap}
use Rattle.std.specs.Prelude.{◌+◌, is_some, nat_eq, nat_le, nat_lt, ◌&&◌, ◌==◌}
use Rattle.std.specs.Option.{option_map, option_map_or}
use Rattle.law_port_facts.specs.port_model.Words.{Addr, Instance, Peer, State, Clearing, SynSent, SynRcvd, Estab, Side, is_estab, SideByInstances, router, side_of, at, Label, label_number, Session, Work, with_session, last_number, own_instance, is_from_peer, is_due, takes, expects}
use Rattle.law_port_facts.proofs.Keyed.{on_each}
use Rattle.law_label_line.specs.Cells.{Downstream, Upstream, Cell}
use Rattle.law_label_line.specs.Line as lines
use Rattle.law_label_line.specs.Line.{Line}
use Rattle.law_label_line.specs.Upstream as up
use Rattle.law_port_facts.specs.port_model.Saying.{peer_instance}
use Rattle.law_port_views.specs.Link.{LinkLabel}
use Rattle.law_port_views.specs.Shown.{label_of, flow_of, number_of, known_number, expected_number, Shown}
use Rattle.law_port_views.proofs.Live.{live_session}
use Rattle.law_port_views.proofs.Tells.{session_up}
use Rattle.law_port_views.proofs.Hellos.{first_of, second_of}
use Rattle.law_port_views.proofs.Hearing.{sided_down, sided_up}

-- *The port takes it*: from the peer, and due
from_estab : (own far : Addr) (stored_own stored silence : ℕ) (source : Addr) (sender peer : Instance)
    → is_from_peer (side_of (router own) (router far) (record { state = Estab; own = stored_own; stored = stored }) silence) source sender peer ≡ true
    → (nat_eq sender.0 stored && nat_eq peer.0 stored_own) ≡ true
from_estab own far stored_own stored silence source sender peer e =
    by (sender.0 == stored) (source.0 == far.0) (peer.0 == stored_own) e
  where
    by : (x y z : Bool) → ((x && y) && z) ≡ true → (x && z) ≡ true
    by true true z e = e
    by true false z e = absurd (cc e)
    by false y z e = absurd (cc e)

from_is : (own far : Addr) (side : SideByInstances) (silence : ℕ) (source : Addr) (sender peer : Instance) (state : State) → side.state ≡ state → is_estab state ≡ true
    → is_from_peer (side_of (router own) (router far) side silence) source sender peer ≡ true
    → lines.is_from_peer side sender.0 peer.0 ≡ true
from_is own far side silence source sender peer Clearing e estab from = absurd (cc estab)
from_is own far side silence source sender peer SynSent e estab from = absurd (cc estab)
from_is own far side silence source sender peer SynRcvd e estab from = absurd (cc estab)
from_is own far side silence source sender peer Estab e estab from =
    ap (λ (s : State). is_estab s && (nat_eq sender.0 side.stored && nat_eq peer.0 side.own)) e
    ∙ from_estab own far side.own side.stored silence source sender peer
    (ap (λ (s : State). is_from_peer (side_of (router own) (router far) (record side { state = s }) silence) source sender peer) (sym e) ∙ from)

due_open : (o : Option Session) (number : ℕ) → is_due o number ≡ true → is_some o ≡ true
due_open None number e = absurd (cc e)
due_open (Some s) number e = refl

due_is : (o : Option Session) (number n : ℕ) → is_due o number ≡ true → n ≡ expected_number o → nat_le n number ≡ true
due_is None number n e is = absurd (cc e)
due_is (Some s) number n e is = ap (λ (k : ℕ). nat_le k number) is ∙ first_of (nat_le s.expected number) (nat_lt number last_number) e

both_are : (x y : Bool) → x ≡ true → y ≡ true → (x && y) ≡ true
both_are x y e f = ap (λ (b : Bool). b && y) e ∙ f

module _ (link : LinkLabel) (like : Type 0) (queued : List Cell) where
  open_due : (w : Work) (source : Addr) (sender peer : Instance) (number : ℕ) → takes w.port source sender peer number ≡ true → is_due w.port.session number ≡ true
  open_due w source sender peer number e = second_of (is_from_peer w.port.adjacency source sender peer) (is_due w.port.session number) e

  -- so there is a session
  pub taken_open : (w : Work) (source : Addr) (sender peer : Instance) (number : ℕ) → takes w.port source sender peer number ≡ true → is_some w.port.session ≡ true
  taken_open w source sender peer number e = due_open w.port.session number (open_due w source sender peer number e)

  pub taken_down : (w : Work) (source : Addr) (sender peer : Instance) (number : ℕ) (line : Line) → takes w.port source sender peer number ≡ true
      → Shown Downstream link like queued w line → lines.is_from_peer line.downstream sender.0 peer.0 ≡ true
  taken_down w source sender peer number line e h =
      from_is (link.address Downstream) (link.address Upstream) line.downstream w.port.adjacency.silence source sender peer line.downstream.state refl
      (sym h.session ∙ taken_open w source sender peer number e)
      (ap (λ (a : Side Peer). is_from_peer a source sender peer) (sym h.side) ∙ first_of (is_from_peer w.port.adjacency source sender peer) (is_due w.port.session number) e)

  pub taken_up : (w : Work) (source : Addr) (sender peer : Instance) (number : ℕ) (line : Line) → takes w.port source sender peer number ≡ true
      → Shown Upstream link like queued w line → up.takes line sender.0 peer.0 number ≡ true
  taken_up w source sender peer number line e h =
      both_are (lines.is_from_peer line.upstream sender.0 peer.0) (nat_le line.expected number)
      (from_is (link.address Upstream) (link.address Downstream) line.upstream w.port.adjacency.silence source sender peer line.upstream.state refl
      (sym h.session ∙ taken_open w source sender peer number e)
      (ap (λ (a : Side Peer). is_from_peer a source sender peer) (sym h.side) ∙ first_of (is_from_peer w.port.adjacency source sender peer) (is_due w.port.session number) e))
      (due_is w.port.session number line.expected (open_due w source sender peer number e) h.expected)

  -- *It expects the next*, of which the line of the end that hands the label out sees nothing
  hushed_down : (w : Work) (line : Line) → Shown Downstream link like queued w line
      → Shown Downstream link like queued (record w { port = record w.port { adjacency = record w.port.adjacency { silence = 0 } } }) line
  hushed_down w line h = sided_down link like queued w line (record w.port.adjacency { silence = 0 }) (ap (λ (a : Side Peer). record a { silence = 0 }) h.side) h

  hushed_up : (w : Work) (line : Line) → Shown Upstream link like queued w line
      → Shown Upstream link like queued (record w { port = record w.port { adjacency = record w.port.adjacency { silence = 0 } } }) line
  hushed_up w line h = sided_up link like queued w line (record w.port.adjacency { silence = 0 }) (ap (λ (a : Side Peer). record a { silence = 0 }) h.side) h

  pub session_kept : (w : Work) (change : Session → Session) (line : Line)
      → ((z : Session) → (change z).number ≡ z.number) → ((z : Session) → (change z).known ≡ z.known) → ((z : Session) → (change z).labels ≡ z.labels)
      → Shown Downstream link like queued w line → Shown Downstream link like queued (with_session w change) line
  session_kept w change line number known labels h = on_each (λ (v : Work). Shown Downstream link like queued v line) w.halted w
      (record w { port = record w.port { session = option_map change w.port.session } }) (λ t. h)
      (λ f. record {
        side = h.side;
        session = still_open w.port.session ∙ h.session;
        label = h.label ∙ ap label_of (sym (still_label w.port.session));
        flow = h.flow ∙ ap (flow_of line.flow) (sym (still_label w.port.session));
        number = h.number ∙ sym (still_number w.port.session);
        unspent = h.unspent;
        known = h.known ∙ sym (still_known w.port.session);
        reassembled = h.reassembled;
        drawn = h.drawn;
        own = h.own;
        sent = h.sent;
      })
    where
      still_open : (o : Option Session) → is_some (option_map change o) ≡ is_some o
      still_open None = refl
      still_open (Some s) = refl

      labels_in : Option Session → List Label
      labels_in o = option_map_or (λ (z : Session). z.labels) o []

      still_label : (o : Option Session) → at label_number link.label (labels_in (option_map change o)) ≡ at label_number link.label (labels_in o)
      still_label None = refl
      still_label (Some s) = ap (at label_number link.label) (labels s)

      still_number : (o : Option Session) → number_of (option_map change o) ≡ number_of o
      still_number None = refl
      still_number (Some s) = number s

      still_known : (o : Option Session) → known_number (option_map change o) ≡ known_number o
      still_known None = refl
      still_known (Some s) = known s

  pub expects_down : (w : Work) (number : ℕ) (line : Line) → Shown Downstream link like queued w line → Shown Downstream link like queued (expects w number) line
  expects_down w number line h = hushed_down (with_session w (λ s. record s { expected = number + 1 })) line
      (session_kept w (λ s. record s { expected = number + 1 }) line (λ z. refl) (λ z. refl) (λ z. refl) h)

  -- and that of the other end expects it too
  pub expects_up : (w : Work) (s : Session) (number : ℕ) (line : Line) → w.halted ≡ false → w.port.session ≡ Some s → Shown Upstream link like queued w line
      → Shown Upstream link like queued (expects w number) (up.expects line number)
  expects_up w s number line live opened h = hushed_up (with_session w (λ z. record z { expected = number + 1 })) (up.expects line number)
      (live_session (λ (v : Work). Shown Upstream link like queued v (up.expects line number)) w s (λ z. record z { expected = number + 1 }) live opened
      (session_up link like queued w s (record s { expected = number + 1 }) line opened h))

  -- *Its own words* are the line's
  pub own_up : (w : Work) (line : Line) → Shown Upstream link like queued w line → own_instance w.port.adjacency ≡ record { 0 = line.upstream.own }
  own_up w line h = ap own_instance h.side

  pub peer_up : (w : Work) (line : Line) (state : State) → line.upstream.state ≡ state → is_estab state ≡ true → Shown Upstream link like queued w line
      → peer_instance w.port.adjacency ≡ record { 0 = line.upstream.stored }
  peer_up w line Clearing e estab h = absurd (cc estab)
  peer_up w line SynSent e estab h = absurd (cc estab)
  peer_up w line SynRcvd e estab h = absurd (cc estab)
  peer_up w line Estab e estab h = ap peer_instance h.side
      ∙ ap (λ (state : State). peer_instance (side_of (router (link.address Upstream)) (router (link.address Downstream)) (record (line.upstream) { state = state }) w.port.adjacency.silence)) e
