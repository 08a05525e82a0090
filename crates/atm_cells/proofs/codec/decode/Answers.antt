use Rattle.std.proofs.Common.{◌≡◌, ℕ, List, length, drop, Ok, ◌∙◌, arith, rules, length-drop}
use Rattle.std.proofs.lemmas.List.{take_all}
use borrow.Rule.Slice.PartMut.{mid_of}
use Rattle.atm_cells.proofs.Fields.{found, read, word_written, gfc_is, pt_is, clp_is}
use Rattle.atm_cells.proofs.Front.{fault_is}
use Rattle.atm_cells.proofs.codec.decode.Goals as goal

-- what is copied is the payload
part : (octets : List ℕ) → length octets ≡ 53 → mid_of 5 48 octets ≡ drop 5 octets
part octets size = take_all 48 (drop 5 octets) (omega (arith, length-drop 5 octets))

pub returns-clause-ok : goal.returns-clause-ok
returns-clause-ok c =
    let octets : List ℕ = c.args.octets.now in
    let payload : c.copy_from_slice.new.self ≡ drop 5 octets = c.copy_from_slice.ensures.after ∙ part octets c.told-octets in
    rw payload (found octets c.from_be_bytes-word.result c.told-octets c.fits-octets c.from_be_bytes-word.ensures
    (c.if-octets-hec.false ∙ c.hec.ensures) c.if-word-ne0.false c.if-payload_type-gt1.false c.if-word-ne0-2.false)

pub returns-clause-inverse : goal.returns-clause-inverse
returns-clause-inverse c header payload vpi vci are =
    let octets : List ℕ = c.args.octets.now in
    let copied : c.copy_from_slice.new.self ≡ drop 5 octets = c.copy_from_slice.ensures.after ∙ part octets c.told-octets in
    let fields = read header payload octets c.from_be_bytes-word.result vpi vci are c.from_be_bytes-word.ensures in
    λ i. Ok (fields.0 i, (copied ∙ fields.1) i)

pub returns-then-word-ne0-clause-inverse : goal.returns-then-word-ne0-clause-inverse
returns-then-word-ne0-clause-inverse c header payload vpi vci are =
    let word : ℕ = c.from_be_bytes-word.result in
    let is = word_written header payload c.args.octets.now word vpi vci are c.from_be_bytes-word.ensures in
    absurd (c.if-word-ne0.true (gfc_is header word vpi vci is))

pub returns-then-payload_type-gt1-clause-inverse : goal.returns-then-payload_type-gt1-clause-inverse
returns-then-payload_type-gt1-clause-inverse c header payload vpi vci are =
    let word : ℕ = c.from_be_bytes-word.result in
    let is = word_written header payload c.args.octets.now word vpi vci are c.from_be_bytes-word.ensures in
    absurd (omega (arith, c.if-payload_type-gt1.true, pt_is header word is))

pub returns-then-word-ne0-2-clause-inverse : goal.returns-then-word-ne0-2-clause-inverse
returns-then-word-ne0-2-clause-inverse c header payload vpi vci are =
    let word : ℕ = c.from_be_bytes-word.result in
    let is = word_written header payload c.args.octets.now word vpi vci are c.from_be_bytes-word.ensures in
    absurd (c.if-word-ne0-2.true (clp_is header word is))

pub returns-then-word-ne0-clause-refused : goal.returns-then-word-ne0-clause-refused
returns-then-word-ne0-clause-refused c = search rules ∙ fault_is c.args.octets.now c.told-octets c.fits-octets

pub returns-then-payload_type-gt1-clause-refused : goal.returns-then-payload_type-gt1-clause-refused
returns-then-payload_type-gt1-clause-refused c = search rules ∙ fault_is c.args.octets.now c.told-octets c.fits-octets

pub returns-then-word-ne0-2-clause-refused : goal.returns-then-word-ne0-2-clause-refused
returns-then-word-ne0-2-clause-refused c = search rules ∙ fault_is c.args.octets.now c.told-octets c.fits-octets

pub returns-clause-refused : goal.returns-clause-refused
returns-clause-refused c = search rules ∙ fault_is c.args.octets.now c.told-octets c.fits-octets
