-- the octets of a message that is said pass each test of a receiver

use Rattle.std.proofs.Common.{◌≡◌, ℕ, ◌+◌, ◌*◌, ◌≤◌, ◌==◌, Bool, true, false, List, [], ◌∷◌, length, get_or, None, refl, sym, subst, arith, inl, inr}
use Rattle.std.specs.Prelude.{nat_le, nat_lt, drop}
use Rattle.std.specs.Int.{w16, from_be_bytes, to_be_bytes}
use Rattle.std.proofs.lemmas.Bool.Decides.{nat_tests}
use Rattle.std.proofs.lemmas.Nat.{from_be_bytes-to_be_bytes_2}
use Rattle.net_types.specs.declared.adjacency.Greeting.{Greeting}
use Rattle.net_types.specs.declared.adjacency.HelloKind.{HelloKind}
use Rattle.net_types.specs.declared.adjacency.HelloKind.TheVariants.{Syn, Synack, Ack, Rstack}
use Rattle.net_types.specs.declared.channel.Channel.{Channel}
use Rattle.gsmp_wire.specs.declared.message.BranchKind.{BranchKind}
use Rattle.gsmp_wire.specs.declared.message.BranchKind.TheVariants.{Add, Delete, Verify, DeleteAll}
use Rattle.gsmp_wire.specs.declared.message.Message.{Message}
use Rattle.gsmp_wire.specs.declared.message.Message.TheVariants.{Adjacency, Branch, Move, Port, AllPorts}
use Rattle.gsmp_wire.specs.declared.rows.PortRow.{PortRow}
use Rattle.gsmp_wire.specs.Layout.{octets_of, rows_octets}
use Rattle.gsmp_wire.specs.Range.{Fits, FitsParty}
use Rattle.gsmp_wire.specs.Refusal.{refusal, are_rows}
use Rattle.gsmp_wire.proofs.Reading.{six}
use Rattle.law_gsmp_reading.specs.Said.{HasResult, asks, succeeds, fails, HasBranches, no_branch, one_branch, no_channel, NamesEnds, HasRows, all_asked, all_told, all_failed, IsSaid}

abbrev IsAccepted : Message → Type 0
IsAccepted m = refusal (octets_of m) ≡ None

-- a Code of a failure
least_is : (code : ℕ) → 1 ≤ code → nat_le 1 code ≡ true
least_is code least = grind (arith, nat_tests)

most_is : (code most : ℕ) → code ≤ most → nat_le code most ≡ true
most_is code most few = grind (arith, nat_tests)

-- *Connections*
module _ (n s ip : ℕ) (i : Channel) (op : ℕ) (o : Channel) (priority : ℕ) where
  abbrev Now : BranchKind → (result code : ℕ) → (input : Channel) → (port : ℕ) → Channel → (branches : ℕ) → Type 0
  Now kind result code input port output branches = IsAccepted (Branch kind result code n s ip input port output branches priority)

  add : {result code branches : ℕ} → HasResult result code → HasBranches result branches → Now Add result code i op o branches
  add asks (no_branch r) = refl
  add succeeds (no_branch r) = refl
  add succeeds one_branch = refl
  add (fails code least most) (no_branch r) = rw (least_is code least, most_is code 7 most) refl

  delete : {result code branches : ℕ} → HasResult result code → HasBranches result branches → Now Delete result code i 0 no_channel branches
  delete asks (no_branch r) = refl
  delete succeeds (no_branch r) = refl
  delete succeeds one_branch = refl
  delete (fails code least most) (no_branch r) = rw (least_is code least, most_is code 7 most) refl

  delete_all : {result code branches : ℕ} → HasResult result code → HasBranches result branches → Now DeleteAll result code no_channel 0 no_channel branches
  delete_all asks (no_branch r) = refl
  delete_all succeeds (no_branch r) = refl
  delete_all succeeds one_branch = refl
  delete_all (fails code least most) (no_branch r) = rw (least_is code least, most_is code 7 most) refl

  verify : {result code branches : ℕ} → HasResult result code → HasBranches result branches → Now Verify result code i 0 no_channel branches
  verify asks (no_branch r) = refl
  verify succeeds (no_branch r) = refl
  verify succeeds one_branch = refl
  verify (fails code least most) (no_branch r) = rw (least_is code least, most_is code 7 most) refl

  verified : {branches : ℕ} → HasBranches 3 branches → Now Verify 3 0 i op o branches
  verified (no_branch r) = refl
  verified one_branch = refl

  succeeded : {result code branches : ℕ} → HasResult result code → result ≡ 3 → HasBranches result branches → Now Verify result code i op o branches
  succeeded asks is b = absurd (cc is)
  succeeded succeeds is b = verified b
  succeeded (fails code least most) is b = absurd (cc is)

  by_kind : (kind : BranchKind) (result code branches : ℕ) → HasResult result code → HasBranches result branches → NamesEnds kind result i op o → Now kind result code i op o branches
  by_kind Add result code branches r b e = add r b
  by_kind Delete result code branches r b e =
      subst (λ (p : ℕ). Now Delete result code i p o branches) (sym e.0) (subst (λ (c : Channel). Now Delete result code i 0 c branches) (sym e.1) (delete r b))
  by_kind DeleteAll result code branches r b e = subst (λ (c : Channel). Now DeleteAll result code c op o branches) (sym e.1)
      (subst (λ (p : ℕ). Now DeleteAll result code no_channel p o branches) (sym e.0.0) (subst (λ (c : Channel). Now DeleteAll result code no_channel 0 c branches) (sym e.0.1) (delete_all r b)))
  by_kind Verify result code branches r b e = elim e [
    | inl is ↦ succeeded r is b
    | inr none ↦ subst (λ (p : ℕ). Now Verify result code i p o branches) (sym none.0) (subst (λ (c : Channel). Now Verify result code i 0 c branches) (sym none.1) (verify r b))
  ]

move_accepted : (n s ip : ℕ) (i : Channel) (op : ℕ) (o : Channel) (tp : ℕ) (t : Channel) (priority : ℕ) {result code branches : ℕ} → HasResult result code → HasBranches result branches
    → IsAccepted (Move result code n s ip i op o tp t branches priority)
move_accepted n s ip i op o tp t priority asks (no_branch r) = refl
move_accepted n s ip i op o tp t priority succeeds (no_branch r) = refl
move_accepted n s ip i op o tp t priority succeeds one_branch = refl
move_accepted n s ip i op o tp t priority (fails code least most) (no_branch r) = rw (least_is code least, most_is code 7 most) refl

port_accepted : (n port session function : ℕ) → 1 ≤ function → function ≤ 2 → {result code : ℕ} → HasResult result code → IsAccepted (Port result code n port session function)
port_accepted n port session function low high asks = rw (least_is function low, most_is function 2 high) refl
port_accepted n port session function low high succeeds = rw (least_is function low, most_is function 2 high) refl
port_accepted n port session function low high (fails code least most) = rw (least_is function low, most_is function 2 high, least_is code least, most_is code 7 most) refl

-- *Records of ports*
rows_length : (rows : List PortRow) → length (rows_octets rows) ≡ 16 * length rows
rows_length [] = refl
rows_length (row ∷ rows) = omega (arith, rows_length rows)

row_passes : (row : PortRow) (rows : List PortRow) (up : Bool) → are_rows (length rows) (rows_octets rows) ≡ true
    → are_rows (length (row ∷ rows)) (rows_octets (record row { up = up } ∷ rows)) ≡ true
row_passes row rows true rest = rest
row_passes row rows false rest = rest

rows_pass : (rows : List PortRow) → are_rows (length rows) (rows_octets rows) ≡ true
rows_pass [] = refl
rows_pass (row ∷ rows) = row_passes row rows row.up (rows_pass rows)

ports_told : (n : ℕ) (rows : List PortRow) → 1 ≤ length rows → length rows ≤ 9 → IsAccepted (AllPorts 3 0 n rows)
ports_told n rows some few =
    let octets : List ℕ = octets_of (AllPorts 3 0 n rows) in
    let count : from_be_bytes w16 (to_be_bytes w16 (length rows)) ≡ length rows = from_be_bytes-to_be_bytes_2 (length rows) (omega (arith, few)) in
    let whole : length octets ≡ 20 + 16 * length rows = omega (arith, rows_length rows) in
    let inner : length (drop 8 octets) ≡ 12 + 16 * length rows = omega (arith, rows_length rows) in
    let long : nat_lt (length octets) 12 ≡ false = grind (arith, nat_tests, whole) in
    let size : (length (drop 8 octets) == 12 + 16 * length rows) ≡ true = grind (arith, nat_tests, inner) in
    rw (long, count, least_is (length rows) some, most_is (length rows) 9 few, size, rows_pass rows) refl

ports_accepted : (n : ℕ) {result code : ℕ} {rows : List PortRow} → length rows ≤ 9 → HasResult result code → HasRows result rows → IsAccepted (AllPorts result code n rows)
ports_accepted n few asks all_asked = refl
ports_accepted n few succeeds (all_told row rows) = ports_told n (row ∷ rows) (omega arith) few
ports_accepted n few (fails code least most) all_failed = rw (least_is code least, most_is code 7 most) refl

-- *Greetings*
abbrev spelled : List ℕ → List ℕ
spelled s = get_or s 0 0 ∷ get_or s 1 0 ∷ get_or s 2 0 ∷ get_or s 3 0 ∷ get_or s 4 0 ∷ get_or s 5 0 ∷ []

greeting_accepted : (g : Greeting) → FitsParty g.sender → FitsParty g.receiver → IsAccepted (Adjacency g)
greeting_accepted g sender receiver =
    subst (λ (name : List ℕ). IsAccepted (Adjacency (record g { sender = record g.sender { name = name } }))) (six g.sender.name sender.name_length)
    (subst (λ (name : List ℕ). IsAccepted (Adjacency (record g { sender = record g.sender { name = spelled g.sender.name }; receiver = record g.receiver { name = name } }))) (six g.receiver.name receiver.name_length)
    (by_kind g.kind))
  where
    by_kind : (kind : HelloKind) → IsAccepted (Adjacency (record { kind = kind; sender = record g.sender { name = spelled g.sender.name }; receiver = record g.receiver { name = spelled g.receiver.name } }))
    by_kind Syn = refl
    by_kind Synack = refl
    by_kind Ack = refl
    by_kind Rstack = refl

-- *Each*
pub accepted : (m : Message) → Fits m → IsSaid m → refusal (octets_of m) ≡ None
accepted (Adjacency g) fits said = greeting_accepted g fits.0 fits.1
accepted (Branch kind result code n s ip i op o branches priority) fits said = by_kind n s ip i op o priority kind result code branches said.0 said.1 said.2
accepted (Move result code n s ip i op o tp t branches priority) fits said = move_accepted n s ip i op o tp t priority said.0 said.1
accepted (Port result code n port session function) fits said = port_accepted n port session function said.1 said.2 said.0
accepted (AllPorts result code n rows) fits said = ports_accepted n fits.3 said.0 said.1
