-- The messages that a switch sends are in range.

use Rattle.std.proofs.Common.{◌≡◌, ◌∙◌, ◌==◌, ◌&&◌, ◌+◌, ◌*◌, ◌≤◌, ◌++◌, map, Option, drop, Bool, true, false, not, ℕ, List, [], ◌∷◌, length, get_or, Some, None, refl, ap, subst, arith}
use Rattle.std.specs.Prelude.{if◌then◌else◌, nat_lt}
use Rattle.std.proofs.lemmas.List.{length-map}
use Rattle.std.proofs.lemmas.Nat.{from_be_bytes-to_be_bytes_2}
use Rattle.std.proofs.lemmas.Bool.Decides.{nat_tests}
use Rattle.net_types.specs.declared.channel.Channel.{Channel}
use Rattle.net_types.specs.declared.channel.End.{End}
use Rattle.net_types.specs.declared.adjacency.Greeting.{Greeting}
use Rattle.net_types.specs.declared.adjacency.HelloKind.{HelloKind}
use Rattle.net_types.specs.declared.adjacency.HelloKind.TheVariants.{Syn, Synack, Rstack, Ack}
use Rattle.gsmp_wire.specs.declared.fault.Fault.{Fault}
use Rattle.gsmp_wire.specs.declared.fault.Fault.TheVariants as faults
use Rattle.gsmp_wire.specs.declared.message.BranchKind.{BranchKind}
use Rattle.gsmp_wire.specs.declared.message.BranchKind.TheVariants.{Add, Delete, Verify, DeleteAll}
use Rattle.gsmp_wire.specs.declared.message.Message.{Message}
use Rattle.gsmp_wire.specs.declared.message.Message.TheVariants.{Adjacency, Branch, Move, Port, AllPorts}
use Rattle.gsmp_wire.specs.Layout.{octets_of, row_octets, rows_octets}
use Rattle.gsmp_wire.specs.Range.{Bits, FitsChannel, FitsParty, FitsRow, FitsRows, IsInRange}
use Rattle.gsmp_wire.specs.Refusal.{are_rows, are_zero, between, is_connection, is_row, refusal}
use Rattle.octet_fields.specs.Fields.{u16_at}
use Rattle.gsmp_wire.proofs.Places.{both}
use Rattle.gsmp_wire.proofs.Reading.{six}
use Rattle.gsmp_wire.proofs.Writing.{length-rows_octets}
use Rattle.gsmp_wire.specs.declared.rows.PortRow.{PortRow}
use Rattle.world_model.specs.switch_model.declared.port.PortState.{PortState}
use Rattle.world_model.specs.gsmp_wire.declared.failure.Failure.{Failure}
use Rattle.world_model.specs.gsmp_wire.declared.failure.Failure.TheVariants.{NoPort, BadSession, PortDown, OutOfRange, Busy, NoConnection, SessionsSpent}
use Rattle.world_model.specs.Requests.{end_at, is_request, result_of}
use Rattle.world_model.specs.Answers.{count_of, failure_answer, failure_code, port_row, told_output}

-- a greeting whose names have these octets
abbrev spelled_out : HelloKind → (s r : List ℕ) (sp rp si ri : ℕ) → Message
spelled_out kind s r sp rp si ri =
    Adjacency (record { kind = kind; sender = record { name = s; port = sp; instance = record { 0 = si } }; receiver = record { name = r; port = rp; instance = record { 0 = ri } } })

by_octets : (kind : HelloKind) (a b c d e f g h i j k l sp rp si ri : ℕ) → refusal (octets_of (spelled_out kind (a ∷ b ∷ c ∷ d ∷ e ∷ f ∷ []) (g ∷ h ∷ i ∷ j ∷ k ∷ l ∷ []) sp rp si ri)) ≡ None
by_octets Syn a b c d e f g h i j k l sp rp si ri = refl
by_octets Synack a b c d e f g h i j k l sp rp si ri = refl
by_octets Rstack a b c d e f g h i j k l sp rp si ri = refl
by_octets Ack a b c d e f g h i j k l sp rp si ri = refl

accepted_greeting : (kind : HelloKind) (s r : List ℕ) (sp rp si ri : ℕ) → length s ≡ 6 → length r ≡ 6 → refusal (octets_of (spelled_out kind s r sp rp si ri)) ≡ None
accepted_greeting kind s r sp rp si ri sender receiver =
    rw (← six s sender, ← six r receiver) (by_octets kind (get_or s 0 0) (get_or s 1 0) (get_or s 2 0) (get_or s 3 0) (get_or s 4 0) (get_or s 5 0) (get_or r 0 0) (get_or r 1 0) (get_or r 2 0) (get_or r 3 0) (get_or r 4 0) (get_or r 5 0) sp rp si ri)

pub greeting_in_range : (g : Greeting) → FitsParty g.sender → FitsParty g.receiver → IsInRange (Adjacency g)
greeting_in_range g sender receiver = record {
  fits = (sender, receiver);
  accepted = accepted_greeting g.kind g.sender.name g.receiver.name g.sender.port g.receiver.port g.sender.instance.0 g.receiver.instance.0 sender.name_length receiver.name_length;
}

-- *Answers*

-- the tests of a request that come after its Result: Code, Size (a literal length), and Reserved
two_left : (a b : Bool) → (if not a then Some faults.Code else (if not b then Some faults.Reserved else None)) ≡ None → (a ≡ true) × (b ≡ true)
two_left true true h = (refl, refl)
two_left true false h = absurd (cc h)
two_left false b h = absurd (cc h)

two_pass : (a b : Bool) → a ≡ true → b ≡ true → (if not a then Some faults.Code else (if not b then Some faults.Reserved else None)) ≡ None
two_pass a b p q = rw (p, q) refl

code_of : (failure : Failure) → between 1 7 (failure_code failure) ≡ true
code_of NoPort = refl
code_of BadSession = refl
code_of PortDown = refl
code_of OutOfRange = refl
code_of Busy = refl
code_of NoConnection = refl
code_of SessionsSpent = refl

small_code : (failure : Failure) → Bits 8 (failure_code failure)
small_code NoPort = omega arith
small_code BadSession = omega arith
small_code PortDown = omega arith
small_code OutOfRange = omega arith
small_code Busy = omega arith
small_code NoConnection = omega arith
small_code SessionsSpent = omega arith

result_is : (result : ℕ) → (result == 2) ≡ true → result ≡ 2
result_is result h = grind (arith, nat_tests, h)

branch_failed : (failure : Failure) (kind : BranchKind) (code t s ip : ℕ) (i : Channel) (op : ℕ) (o : Channel) (b p : ℕ) → refusal (octets_of (Branch kind 2 code t s ip i op o b p)) ≡ None → refusal (octets_of (Branch kind 4 (failure_code failure) t s ip i op o b p)) ≡ None
branch_failed failure Add code t s ip i op o b p h = two_pass _ _ (code_of failure) (two_left (code == 0) _ h).1
branch_failed failure Delete code t s ip i op o b p h = two_pass _ _ (code_of failure) (two_left (code == 0) _ h).1
branch_failed failure Verify code t s ip i op o b p h = two_pass _ _ (code_of failure) (two_left (code == 0) _ h).1
branch_failed failure DeleteAll code t s ip i op o b p h = two_pass _ _ (code_of failure) (two_left (code == 0) _ h).1

move_failed : (failure : Failure) (code t s ip : ℕ) (i : Channel) (op : ℕ) (o : Channel) (tp : ℕ) (x : Channel) (b p : ℕ) → refusal (octets_of (Move 2 code t s ip i op o tp x b p)) ≡ None → refusal (octets_of (Move 4 (failure_code failure) t s ip i op o tp x b p)) ≡ None
move_failed failure code t s ip i op o tp x b p h = two_pass _ _ (code_of failure) (two_left (code == 0) _ h).1

port_failed : (failure : Failure) (code t port s f : ℕ) → refusal (octets_of (Port 2 code t port s f)) ≡ None → refusal (octets_of (Port 4 (failure_code failure) t port s f)) ≡ None
port_failed failure code t port s f h = two_pass _ _ (code_of failure) (two_left (code == 0) _ h).1

ports_failed : (failure : Failure) (t : ℕ) → refusal (octets_of (AllPorts 4 (failure_code failure) t [])) ≡ None
ports_failed failure t = two_pass _ true (code_of failure) refl

failure_by : (failure : Failure) (m : Message) (r : ℕ) → result_of m ≡ r → r ≡ 2 → IsInRange m → IsInRange (failure_answer failure m)
failure_by failure (Adjacency g) r is two range = range
failure_by failure (Branch kind result code t s ip i op o b p) r is two range =
    let request : IsInRange (Branch kind 2 code t s ip i op o b p) = subst (λ (n : ℕ). IsInRange (Branch kind n code t s ip i op o b p)) (is ∙ two) range in
    let f = range.fits in
    record { fits = (omega arith, small_code failure, f.2, f.3, f.4, f.5, f.6, f.7, f.8, f.9); accepted = branch_failed failure kind code t s ip i op o b p request.accepted }
failure_by failure (Move result code t s ip i op o tp x b p) r is two range =
    let request : IsInRange (Move 2 code t s ip i op o tp x b p) = subst (λ (n : ℕ). IsInRange (Move n code t s ip i op o tp x b p)) (is ∙ two) range in
    let f = range.fits in
    record { fits = (omega arith, small_code failure, f.2, f.3, f.4, f.5, f.6, f.7, f.8, f.9, f.10, f.11); accepted = move_failed failure code t s ip i op o tp x b p request.accepted }
failure_by failure (Port result code t port s f) r is two range =
    let request : IsInRange (Port 2 code t port s f) = subst (λ (n : ℕ). IsInRange (Port n code t port s f)) (is ∙ two) range in
    let g = range.fits in
    record { fits = (omega arith, small_code failure, g.2, g.3, g.4, g.5); accepted = port_failed failure code t port s f request.accepted }
failure_by failure (AllPorts result code t rows) r is two range =
    record { fits = (omega arith, small_code failure, range.fits.2, omega arith, tt); accepted = ports_failed failure t }

pub failure_in_range : (failure : Failure) (m : Message) → is_request m ≡ true → IsInRange m → IsInRange (failure_answer failure m)
failure_in_range failure m asks range = failure_by failure m (result_of m) refl (result_is (result_of m) asks) range

-- *Success answers*

abbrev body : Message → List ℕ
body m = drop 8 (octets_of m)

one_pass : (b : Bool) → b ≡ true → (if not b then Some faults.Reserved else None) ≡ None
one_pass b p = rw p refl

branch_ok : (kind : BranchKind) (found : Option End) (code t s ip : ℕ) (i : Channel) (op : ℕ) (o : Channel) (b p : ℕ) → refusal (octets_of (Branch kind 2 code t s ip i op o b p)) ≡ None → refusal (octets_of (Branch kind 3 0 t s ip i (told_output kind (end_at op o) found).port.0 (told_output kind (end_at op o) found).channel (count_of found) p)) ≡ None
branch_ok Add None code t s ip i op o b p h = refl
branch_ok Add (Some e) code t s ip i op o b p h = refl
branch_ok Verify None code t s ip i op o b p h = refl
branch_ok Verify (Some e) code t s ip i op o b p h = refl
branch_ok Delete None code t s ip i op o b p h =
    let m = body (Branch Delete 2 code t s ip i op o b p) in
    one_pass _ (both (is_connection m) (are_zero 20 8 m) (two_left (code == 0) _ h).1).1
branch_ok Delete (Some e) code t s ip i op o b p h =
    let m = body (Branch Delete 2 code t s ip i op o b p) in
    one_pass _ (both (is_connection m) (are_zero 20 8 m) (two_left (code == 0) _ h).1).1
branch_ok DeleteAll None code t s ip i op o b p h =
    let m = body (Branch DeleteAll 2 code t s ip i op o b p) in
    one_pass _ (both (is_connection m) (are_zero 20 8 m && are_zero 16 4 m) (two_left (code == 0) _ h).1).1
branch_ok DeleteAll (Some e) code t s ip i op o b p h =
    let m = body (Branch DeleteAll 2 code t s ip i op o b p) in
    one_pass _ (both (is_connection m) (are_zero 20 8 m && are_zero 16 4 m) (two_left (code == 0) _ h).1).1

move_ok : (found : Option End) (t s ip : ℕ) (i : Channel) (op : ℕ) (o : Channel) (tp : ℕ) (x : Channel) (p : ℕ) → refusal (octets_of (Move 3 0 t s ip i op o tp x (count_of found) p)) ≡ None
move_ok None t s ip i op o tp x p = refl
move_ok (Some e) t s ip i op o tp x p = refl

port_ok : (code t port s f n : ℕ) → refusal (octets_of (Port 2 code t port s f)) ≡ None → refusal (octets_of (Port 3 0 t port n f)) ≡ None
port_ok code t port s f n h = one_pass _ (two_left (code == 0) _ h).1

small_count : (found : Option End) → Bits 16 (count_of found)
small_count None = omega arith
small_count (Some e) = omega arith

pub branch_in_range : (kind : BranchKind) (found : Option End) (result code t s ip : ℕ) (i : Channel) (op : ℕ) (o : Channel) (b p : ℕ) → (result == 2) ≡ true → IsInRange (Branch kind result code t s ip i op o b p) → Bits 32 (told_output kind (end_at op o) found).port.0 → FitsChannel (told_output kind (end_at op o) found).channel → IsInRange (Branch kind 3 0 t s ip i (told_output kind (end_at op o) found).port.0 (told_output kind (end_at op o) found).channel (count_of found) p)
branch_in_range kind found result code t s ip i op o b p asks range port channel =
    let request : IsInRange (Branch kind 2 code t s ip i op o b p) = subst (λ (n : ℕ). IsInRange (Branch kind n code t s ip i op o b p)) (result_is result asks) range in
    let f = range.fits in
    record { fits = (omega arith, omega arith, f.2, f.3, f.4, f.5, port, channel, small_count found, f.9); accepted = branch_ok kind found code t s ip i op o b p request.accepted }

pub move_in_range : (found : Option End) (result code t s ip : ℕ) (i : Channel) (op : ℕ) (o : Channel) (tp : ℕ) (x : Channel) (b p : ℕ) → IsInRange (Move result code t s ip i op o tp x b p) → IsInRange (Move 3 0 t s ip i op o tp x (count_of found) p)
move_in_range found result code t s ip i op o tp x b p range =
    let f = range.fits in
    record { fits = (omega arith, omega arith, f.2, f.3, f.4, f.5, f.6, f.7, f.8, f.9, small_count found, f.11); accepted = move_ok found t s ip i op o tp x p }

pub port_in_range : (result code t port s f n : ℕ) → (result == 2) ≡ true → IsInRange (Port result code t port s f) → Bits 32 n → IsInRange (Port 3 0 t port n f)
port_in_range result code t port s f n asks range fits =
    let request : IsInRange (Port 2 code t port s f) = subst (λ (r : ℕ). IsInRange (Port r code t port s f)) (result_is result asks) range in
    let g = range.fits in
    record { fits = (omega arith, omega arith, g.2, g.3, fits, g.5); accepted = port_ok code t port s f n request.accepted }

-- *All Ports*

one_row : (up : Bool) (port session : ℕ) (rest : List ℕ) → is_row (row_octets (record { port = port; session = session; up = up; least = 32; greatest = 1023 }) ++ rest) ≡ true
one_row true port session rest = refl
one_row false port session rest = refl

both_hold : (a b : Bool) → a ≡ true → b ≡ true → (a && b) ≡ true
both_hold a b p q = rw (p, q) refl

rows_hold : (states : List PortState) → are_rows (length (map port_row states)) (rows_octets (map port_row states)) ≡ true
rows_hold [] = refl
rows_hold (state ∷ states) =
    both_hold _ _ (one_row state.is_up state.number.0 state.session (rows_octets (map port_row states))) (rows_hold states)

pub rows_fit : (rows : List PortRow) (row : PortRow) → FitsRows rows → FitsRow row → FitsRows (rows ++ row ∷ [])
rows_fit [] row all one = (one, tt)
rows_fit (r ∷ rows) row all one = (all.0, rows_fit rows row all.1 one)

sized_by : (n c l : ℕ) → n ≡ c → 1 ≤ c → c ≤ 9 → l ≡ 12 + 16 * c → (between 1 9 n && (l == 12 + 16 * n)) ≡ true
sized_by n c l same some few size = rw (same, size) (grind (arith, nat_tests, some, few))

chain : (a b c : Bool) (next : Option Fault) → a ≡ false → b ≡ true → c ≡ true → next ≡ None → (if a then Some faults.Short else (if not b then Some faults.Snap else (if not c then Some faults.Version else next))) ≡ None
chain a b c next p q r h = rw (p, q, r) h

size_and_fields : (size fields : Bool) → size ≡ true → fields ≡ true → (if not size then Some faults.Size else (if not fields then Some faults.Reserved else None)) ≡ None
size_and_fields size fields p q = rw (p, q) refl

ports_accepted : (t : ℕ) (rows : List PortRow) → 1 ≤ length rows → length rows ≤ 9 → are_rows (length rows) (rows_octets rows) ≡ true → refusal (octets_of (AllPorts 3 0 t rows)) ≡ None
ports_accepted t rows some few hold =
    let m = body (AllPorts 3 0 t rows) in
    let count : u16_at m 8 ≡ length rows = from_be_bytes-to_be_bytes_2 (length rows) (omega (arith, few)) in
    let size = length-rows_octets rows in
    let long : nat_lt (length (octets_of (AllPorts 3 0 t rows))) 12 ≡ false = grind (arith, nat_tests) in
    let sized : (between 1 9 (u16_at m 8) && (length m == 12 + 16 * u16_at m 8)) ≡ true = sized_by _ (length rows) _ count some few (omega (arith, size)) in
    let fields : are_rows (u16_at m 8) (rows_octets rows) ≡ true = ap (λ (n : ℕ). are_rows n (rows_octets rows)) count ∙ hold in
    chain _ true true _ long refl refl (size_and_fields _ _ sized fields)

pub rows_in_range : (t : ℕ) (states : List PortState) → Bits 32 t → 1 ≤ length states → length states ≤ 9 → FitsRows (map port_row states) → IsInRange (AllPorts 3 0 t (map port_row states))
rows_in_range t states time some few fit =
    let size = length-map states port_row in
    record {
      fits = (omega arith, omega arith, time, omega (arith, size, few), fit);
      accepted = ports_accepted t (map port_row states) (omega (arith, size, some)) (omega (arith, size, few)) (rows_hold states);
    }
