-- faults, as they are passed on and counted

use Rattle.std.proofs.Common.{◌≡◌, ◌∙◌, true, false, ℕ, Result, Ok, Err, IsErrAnd, ap, subst, sym}
use Rattle.lab_io.specs.Fault.{count_after}
use Rattle.line_by_line.specs.declared.fault.LineFault.{LineFault}
use Rattle.line_by_line.specs.declared.fault.LineFault.TheVariants.{Read, Write, OutOfMemory}
use Rattle.line_by_line.specs.Faults.{is_read_fault, is_write_fault}

pub err_is : {A E : Type 0} (result : Result A E) (fault : E) → IsErrAnd result (λ f. f ≡ fault) → result ≡ Err fault
err_is (Ok x) fault is = absurd is
err_is (Err f) fault is = ap Err is

-- a fault that is passed on is counted as it was
pub read_passes : (A : Type 0) {B : Type 0} (result : Result B LineFault) (fault : LineFault) (old mid new : ℕ) → IsErrAnd result (λ f. f ≡ fault)
    → new ≡ count_after (is_read_fault {A = A} (Err fault)) mid → mid ≡ old → new ≡ count_after (is_read_fault result) old
read_passes A (Ok x) fault old mid new is e f = absurd is
read_passes A (Err Read) fault old mid new is e f = subst (λ (other : LineFault). new ≡ count_after (is_read_fault {A = A} (Err other)) mid) (sym is) e ∙ ap (count_after true) f
read_passes A (Err Write) fault old mid new is e f = subst (λ (other : LineFault). new ≡ count_after (is_read_fault {A = A} (Err other)) mid) (sym is) e ∙ ap (count_after false) f
read_passes A (Err (OutOfMemory error)) fault old mid new is e f = subst (λ (other : LineFault). new ≡ count_after (is_read_fault {A = A} (Err other)) mid) (sym is) e ∙ ap (count_after false) f

pub write_passes : (A : Type 0) {B : Type 0} (result : Result B LineFault) (fault : LineFault) (old mid new : ℕ) → IsErrAnd result (λ f. f ≡ fault)
    → new ≡ count_after (is_write_fault {A = A} (Err fault)) mid → mid ≡ old → new ≡ count_after (is_write_fault result) old
write_passes A (Ok x) fault old mid new is e f = absurd is
write_passes A (Err Read) fault old mid new is e f = subst (λ (other : LineFault). new ≡ count_after (is_write_fault {A = A} (Err other)) mid) (sym is) e ∙ ap (count_after false) f
write_passes A (Err Write) fault old mid new is e f = subst (λ (other : LineFault). new ≡ count_after (is_write_fault {A = A} (Err other)) mid) (sym is) e ∙ ap (count_after true) f
write_passes A (Err (OutOfMemory error)) fault old mid new is e f = subst (λ (other : LineFault). new ≡ count_after (is_write_fault {A = A} (Err other)) mid) (sym is) e ∙ ap (count_after false) f
