-- What the adjacency table answers stands for the own party, which stays the same.

use Rattle.std.proofs.Common.{◌≡◌, ℕ, Bool, true, false, cond, refl, Some}
use Rattle.std.specs.Prelude.{if◌then◌else◌}
use Rattle.std.specs.Option.{option_map_or}
use Rattle.net_types.specs.declared.adjacency.HelloKind.{HelloKind}
use Rattle.net_types.specs.declared.adjacency.Peer.{Peer}
use Rattle.adjacency_table.specs.declared.message.Said.{Said}
use Rattle.net_types.specs.declared.adjacency.Hello.{Hello}
use Rattle.net_types.specs.declared.prefix.Addr.{Addr}
use Rattle.adjacency_table.specs.declared.message.Heard.{Heard}
use Rattle.adjacency_table.specs.Hello.{heard_from, ifmp_answer, ifmp_received, same_peer}
use Rattle.adjacency_table.specs.Side.{Side, answer_of, answer_to, counted, followed, followed_tick, is_entry, answer_opened, ticked}
use Rattle.adjacency_table.specs.Table.{Reply, Row, Silent, Says, Resets, row, tick_reply}
use Rattle.port_model.specs.Port.{Port}
use Rattle.port_state.specs.Parts.{IsOwn}

pub own_step : (port : Port) (own : Peer) (says : HelloKind → Said Peer) (reply : Reply) (b : Bool) (e : ℕ) → own.instance ≡ port.adjacency.own.instance → IsOwn port (ifmp_answer e (cond b (answer_opened own (answer_of says reply)) (answer_of says reply)))
own_step port own says Silent true e h = h
own_step port own says (Says kind) true e h = h
own_step port own says Resets true e h = tt
own_step port own says Silent false e h = tt
own_step port own says (Says kind) false e h = tt
own_step port own says Resets false e h = tt

tick_own : (port : Port) (side : Side Peer) (reply : Reply) (e : ℕ) → IsOwn port (ifmp_answer e (followed_tick side reply).answer)
tick_own port side Silent e = tt
tick_own port side (Says kind) e = tt
tick_own port side Resets e = tt

pub own_tick : (port : Port) (side : Side Peer) (e : ℕ) → IsOwn port (ifmp_answer e (ticked side).answer)
own_tick port side e = tick_own port side (tick_reply side.state (counted side.state side.silence)) e

same_own : (side : Side Peer) (reply : Reply) → (followed_tick side reply).side.own ≡ side.own
same_own side Silent = refl
same_own side (Says kind) = refl
same_own side Resets = refl

pub own_ticked : (side : Side Peer) → (ticked side).side.own ≡ side.own
own_ticked side = same_own side (tick_reply side.state (counted side.state side.silence))

own_followed : (port : Port) (side : Side Peer) (m : Heard Peer) (r : Row) (e : ℕ) → side.own.instance ≡ port.adjacency.own.instance → IsOwn port (ifmp_answer e (followed side m r).answer)
own_followed port side m r e h =
    own_step port side.own
    (answer_to (record { state = r.next; own = side.own; stored = if r.stores then Some m.sender else side.stored; silence = if r.clears_silence then 0 else side.silence }) m)
    r.reply (is_entry side.state r.next) e h

pub own_received : (port : Port) (side : Side Peer) (source : Addr) (hello : Hello) (e : ℕ) → side.own.instance ≡ port.adjacency.own.instance → IsOwn port (ifmp_answer e (ifmp_received side source hello).answer)
own_received port side source hello e h =
    own_followed port side (heard_from source hello)
    (row side.state hello.kind (same_peer (heard_from source hello).receiver side.own) (option_map_or (same_peer (heard_from source hello).sender) side.stored false)) e h
