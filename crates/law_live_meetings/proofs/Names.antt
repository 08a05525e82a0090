-- the parties of both protocols are told from one another by all that they are

use Rattle.std.proofs.Common.{◌≡◌, ℕ, ◌&&◌, ◌==◌, Bool, true, false, List, Option, None, Some, refl, inl, inr}
use Rattle.std.specs.Prelude.{bytes_eq, nat_eq}
use Rattle.std.proofs.lemmas.Bool.{eq-eqb, eqb-true}
use Rattle.std.proofs.lemmas.Slice.Eq.{bytes_eq-Decides}
use Rattle.live_model.specs.world_model.Words.{Peer, Party, HelloKind, Side, hello_of, ifmp_received, received, same_peer, same_party}
use Rattle.law_live_meetings.specs.Exchange.{ifmp, gsmp, heard}
use Rattle.law_live_meetings.specs.Law.{EndsComeToMeet, StrangersComeToMeet, HellosAreHeard}
use Rattle.law_live_meetings.proofs.Greetings.{IsFirst}
use Rattle.law_live_meetings.proofs.Meet.{ends_meet, strangers_meet}

number : (n : ℕ) → nat_eq n n ≡ true
number n = eq-eqb n n refl

bytes : (xs : List ℕ) → bytes_eq xs xs ≡ true
bytes xs = (bytes_eq-Decides xs xs).1 refl

both : (x y : Bool) → x ≡ true → y ≡ true → (x && y) ≡ true
both true y p q = q
both false y p q = absurd (cc p)

first : (x y : Bool) → (x && y) ≡ true → x ≡ true
first true y p = refl
first false y p = p

second : (x y : Bool) → (x && y) ≡ true → y ≡ true
second true y p = p
second false y p = absurd (cc p)

peer_itself : (x : Peer) → same_peer x x ≡ true
peer_itself x = both (x.instance.0 == x.instance.0) (x.address.0 == x.address.0) (number x.instance.0) (number x.address.0)

party_itself : (x : Party) → same_party x x ≡ true
party_itself x = both (bytes_eq x.name x.name) ((x.port == x.port) && (x.instance.0 == x.instance.0)) (bytes x.name)
    (both (x.port == x.port) (x.instance.0 == x.instance.0) (number x.port) (number x.instance.0))

peer_is_one : (x y : Peer) → same_peer x y ≡ true → x ≡ y
peer_is_one x y e =
    let instances : x.instance.0 ≡ y.instance.0 = eqb-true x.instance.0 y.instance.0 (first (x.instance.0 == y.instance.0) (x.address.0 == y.address.0) e) in
    let addresses : x.address.0 ≡ y.address.0 = eqb-true x.address.0 y.address.0 (second (x.instance.0 == y.instance.0) (x.address.0 == y.address.0) e) in
    λ i. record { instance = record { 0 = instances i }; address = record { 0 = addresses i } }

party_is_one : (x y : Party) → same_party x y ≡ true → x ≡ y
party_is_one x y e =
    let named : Bool = bytes_eq x.name y.name in
    let rest : Bool = (x.port == y.port) && (x.instance.0 == y.instance.0) in
    let numbers : rest ≡ true = second named rest e in
    let names : x.name ≡ y.name = (bytes_eq-Decides x.name y.name).0 (first named rest e) in
    let ports : x.port ≡ y.port = eqb-true x.port y.port (first (x.port == y.port) (x.instance.0 == y.instance.0) numbers) in
    let instances : x.instance.0 ≡ y.instance.0 = eqb-true x.instance.0 y.instance.0 (second (x.port == y.port) (x.instance.0 == y.instance.0) numbers) in
    λ i. record { name = names i; port = ports i; instance = record { 0 = instances i } }

ifmp_begins : IsFirst ifmp.first
ifmp_begins = inl refl

gsmp_begins : IsFirst gsmp.first
gsmp_begins = inr refl

pub neighbours_meet : EndsComeToMeet ifmp
neighbours_meet = ends_meet ifmp peer_itself peer_is_one ifmp_begins

pub switches_meet : EndsComeToMeet gsmp
switches_meet = ends_meet gsmp party_itself party_is_one gsmp_begins

pub strange_neighbours_meet : StrangersComeToMeet ifmp
strange_neighbours_meet = strangers_meet ifmp peer_itself peer_is_one ifmp_begins

pub strange_switches_meet : StrangersComeToMeet gsmp
strange_switches_meet = strangers_meet gsmp party_itself party_is_one gsmp_begins

-- a message of IFMP names a receiver, or writes it as 0
hello_heard : (side : Side Peer) (kind : HelloKind) (sender : Peer) (receiver : Option Peer) (next : ℕ)
    → ifmp_received side sender.address (hello_of next (record { kind = kind; sender = sender; receiver = receiver }))
    ≡ received ifmp.same side (heard ifmp (record { kind = kind; sender = sender; receiver = receiver }))
hello_heard side kind sender None next = refl
hello_heard side kind sender (Some receiver) next = refl

pub hellos_are_heard : HellosAreHeard
hellos_are_heard side message next = hello_heard side message.kind message.sender message.receiver next
