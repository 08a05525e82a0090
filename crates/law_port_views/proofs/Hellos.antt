-- an adjacency message of the other end is heard: the line hears it, or it is lost where the port is to be reset

use Rattle.std.proofs.Common.{◌≡◌, ℕ, Bool, true, false, refl, ◌∙◌, arith}
use Rattle.std.specs.Prelude.{◌&&◌, ◌==◌}
use Rattle.std.proofs.lemmas.Bool.Decides.{nat_tests}
use Rattle.std.proofs.lemmas.Grind.{common_steps}
use Rattle.law_port_facts.specs.port_model.Words.{Addr, Instance, Peer, Hello, HelloKind, Syn, Synack, Rstack, Ack, Side, SideByInstances, row_for, router, side_of, said_by, step_by, hello_of, heard_from, ifmp_received, is_good}
use Rattle.law_port_facts.proofs.port_model.adjacency_table.EndsLemmas.{ifmp_received_by_instances}
use Rattle.law_port_facts.specs.port_model.ifmp_wire.declared.message.Message.TheVariants.{Adjacency}
use Rattle.law_label_line.specs.Downstream as down
use Rattle.law_port_views.specs.Heard.{is_own, is_own_hello}

-- *A message in its sender's own words* is one that an end says to the other
pub number_is : (a b : ℕ) → (a == b) ≡ true → a ≡ b
number_is a b e = grind (arith, nat_tests)

pub first_of : (a b : Bool) → (a && b) ≡ true → a ≡ true
first_of true b e = refl
first_of false b e = absurd (cc e)

pub second_of : (a b : Bool) → (a && b) ≡ true → b ≡ true
second_of true b e = e
second_of false b e = absurd (cc e)

hello_by : (own far : Addr) (kind : HelloKind) (sender peer : Instance) (identity : Addr) (n : ℕ)
    → is_own_hello own (record { kind = kind; sender = sender; peer = peer; identity = identity; next = n }) kind ≡ true
    → ◌≡◌ {A = Hello} (record { kind = kind; sender = sender; peer = peer; identity = identity; next = n })
    (hello_of n (said_by (router far) (router own) kind sender.0 peer.0))
hello_by own far Syn sender peer identity n e = λ i. record {
  kind = Syn;
  sender = sender;
  peer = record { 0 = number_is peer.0 0 (first_of (peer.0 == 0) (identity.0 == 0 && n == 0) e) i };
  identity = record { 0 = number_is identity.0 0 (first_of (identity.0 == 0) (n == 0) (second_of (peer.0 == 0) (identity.0 == 0 && n == 0) e)) i };
  next = number_is n 0 (second_of (identity.0 == 0) (n == 0) (second_of (peer.0 == 0) (identity.0 == 0 && n == 0) e)) i;
}
hello_by own far Synack sender peer identity n e = λ i. record { kind = Synack; sender = sender; peer = peer; identity = record { 0 = number_is identity.0 own.0 e i }; next = n }
hello_by own far Rstack sender peer identity n e = λ i. record {
  kind = Rstack;
  sender = sender;
  peer = peer;
  identity = record { 0 = number_is identity.0 own.0 (first_of (identity.0 == own.0) (n == 0) e) i };
  next = number_is n 0 (second_of (identity.0 == own.0) (n == 0) e) i;
}
hello_by own far Ack sender peer identity n e = λ i. record { kind = Ack; sender = sender; peer = peer; identity = record { 0 = number_is identity.0 own.0 e i }; next = n }

hello_is : (own far : Addr) (hello : Hello) → is_own own (Adjacency hello) ≡ true
    → hello ≡ hello_of hello.next (said_by (router far) (router own) hello.kind hello.sender.0 hello.peer.0)
hello_is own far hello e = hello_by own far hello.kind hello.sender hello.peer hello.identity hello.next e

-- so the port's side follows the row that the instances give, and a good ACK is one by the row
pub step_is : (own far : Addr) (side : SideByInstances) (silence : ℕ) (a : Side Peer) (source : Addr) (hello : Hello) → a ≡ side_of (router own) (router far) side silence
    → source ≡ far → is_own own (Adjacency hello) ≡ true
    → ifmp_received a source hello ≡ step_by (router own) (router far) side silence (row_for side hello.kind hello.sender.0 hello.peer.0) hello.sender.0 hello.peer.0
step_is own far side silence a source hello same from e =
    (λ i. ifmp_received (same i) (from i) (hello_is own far hello e i)) ∙ ifmp_received_by_instances own far side silence hello.next hello.kind hello.sender.0 hello.peer.0

good_by : (own far : Addr) (side : SideByInstances) (silence n : ℕ) (kind : HelloKind) (sender receiver : ℕ)
    → (let hello : Hello = hello_of n (said_by (router far) (router own) kind sender receiver) in
    is_good (side_of (router own) (router far) side silence) (ifmp_received (side_of (router own) (router far) side silence) far hello).side (heard_from far hello))
    ≡ ((row_for side kind sender receiver).clears_silence && down.is_ack kind)
good_by own far side silence n kind sender receiver = grind (arith, common_steps)

pub good_is : (own far : Addr) (side : SideByInstances) (silence : ℕ) (a : Side Peer) (source : Addr) (hello : Hello) → a ≡ side_of (router own) (router far) side silence
    → source ≡ far → is_own own (Adjacency hello) ≡ true
    → is_good a (ifmp_received a source hello).side (heard_from source hello) ≡ ((row_for side hello.kind hello.sender.0 hello.peer.0).clears_silence && down.is_ack hello.kind)
good_is own far side silence a source hello same from e =
    (λ i. is_good (same i) (ifmp_received (same i) (from i) (hello_is own far hello e i)).side (heard_from (from i) (hello_is own far hello e i)))
    ∙ good_by own far side silence hello.next hello.kind hello.sender.0 hello.peer.0
