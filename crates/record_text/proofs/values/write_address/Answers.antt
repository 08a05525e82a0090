use Rattle.std.proofs.Common.{List, ap, ℕ, ◌++◌, ◌∙◌}
use Rattle.std.specs.Prelude.{decimal, slice_index}
use Rattle.lab_text.proofs.Fronts.{begun, on_err, said}
use Rattle.record_text.proofs.Addresses.{dot_here, dot_next, dot_told}
use Rattle.record_text.proofs.Parts.{on_ok}
use Rattle.record_text.proofs.values.write_address.Goals as goal

pub returns-clause-ok : goal.returns-clause-ok
returns-clause-ok c =
    on_ok c.number.result _ _ (λ h. dot_told _ _ _ _ _ _ (ap (λ (os : List ℕ). slice_index os 0) c.to_be_bytes-octets.ensures) c.in_ok-write_dotted.ensures.ok (dot_told _ _ _ _ _ _ (ap (λ (os : List ℕ). slice_index os 1) c.to_be_bytes-octets.ensures) c.in_ok-write_dotted-2.ensures.ok (dot_told _ _ _ _ _ _ (ap (λ (os : List ℕ). slice_index os 2) c.to_be_bytes-octets.ensures) c.in_ok-write_dotted-3.ensures.ok (h ∙ ap (λ (n : ℕ). c.write_dotted-3.new.out ++ decimal n) (c.from.ensures ∙ ap (λ (os : List ℕ). slice_index os 3) c.to_be_bytes-octets.ensures))))) c.number.ensures.ok

pub returns-in_err-write_dotted-clause-err : goal.returns-in_err-write_dotted-clause-err
returns-in_err-write_dotted-clause-err c =
    said c.from_residual.result _ (dot_here _ _ _ _ _ (ap (λ (os : List ℕ). slice_index os 0) c.to_be_bytes-octets.ensures) c.in_err-write_dotted.ensures.err)

pub returns-in_err-write_dotted-2-clause-err : goal.returns-in_err-write_dotted-2-clause-err
returns-in_err-write_dotted-2-clause-err c =
    said c.from_residual-in_err-write_dotted-2.result _ (dot_next _ _ _ _ _ _ (ap (λ (os : List ℕ). slice_index os 0) c.to_be_bytes-octets.ensures) c.in_ok-write_dotted.ensures.ok (dot_here _ _ _ _ _ (ap (λ (os : List ℕ). slice_index os 1) c.to_be_bytes-octets.ensures) c.in_err-write_dotted-2.ensures.err))

pub returns-in_err-write_dotted-3-clause-err : goal.returns-in_err-write_dotted-3-clause-err
returns-in_err-write_dotted-3-clause-err c =
    said c.from_residual-in_err-write_dotted-3.result _ (dot_next _ _ _ _ _ _ (ap (λ (os : List ℕ). slice_index os 0) c.to_be_bytes-octets.ensures) c.in_ok-write_dotted.ensures.ok (dot_next _ _ _ _ _ _ (ap (λ (os : List ℕ). slice_index os 1) c.to_be_bytes-octets.ensures) c.in_ok-write_dotted-2.ensures.ok (dot_here _ _ _ _ _ (ap (λ (os : List ℕ). slice_index os 2) c.to_be_bytes-octets.ensures) c.in_err-write_dotted-3.ensures.err)))

pub returns-clause-err : goal.returns-clause-err
returns-clause-err c =
    on_err c.number.result _ _ (λ h. dot_next _ _ _ _ _ _ (ap (λ (os : List ℕ). slice_index os 0) c.to_be_bytes-octets.ensures) c.in_ok-write_dotted.ensures.ok (dot_next _ _ _ _ _ _ (ap (λ (os : List ℕ). slice_index os 1) c.to_be_bytes-octets.ensures) c.in_ok-write_dotted-2.ensures.ok (dot_next _ _ _ _ _ _ (ap (λ (os : List ℕ). slice_index os 2) c.to_be_bytes-octets.ensures) c.in_ok-write_dotted-3.ensures.ok (begun _ _ _ h)))) c.number.ensures.err
