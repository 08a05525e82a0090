-- two sides that have met: what an ACK and a tick make of one of them

use Rattle.std.proofs.Common.{◌≡◌, ℕ, ◌+◌, ◌<◌, Bool, true, false, Some, refl, sym, ◌∙◌, ap, subst, arith, if◌then◌else◌}
use Rattle.std.specs.Prelude.{◌&&◌, ◌==◌, nat_lt}
use Rattle.std.specs.Str.{bytes_eq}
use Rattle.std.proofs.lemmas.Bool.{eq-eqb}
use Rattle.std.proofs.lemmas.Bool.Decides.{nat_tests}
use Rattle.std.proofs.lemmas.Slice.Eq.{bytes_eq-Decides}
use Rattle.live_model.specs.world_model.Words.{Party, Ack, Quiet, Send, Estab, Resets, Says, Side, Step, enters_by_ack, followed, followed_tick, gsmp_received, heard_in, same_party, stays, Rstack, ticked}
use Rattle.live_model.specs.world_model.adjacency_table.Table.{silence_limit}
use Rattle.law_live_control.specs.Calm.{GoesOn, aged}
use Rattle.law_live_control.specs.Law.{SidesStayMet}

both : (x y : Bool) → x ≡ true → y ≡ true → (x && y) ≡ true
both true y p q = q
both false y p q = absurd (cc p)

itself : (x : Party) → same_party x x ≡ true
itself x = both (bytes_eq x.name x.name) ((x.port == x.port) && (x.instance.0 == x.instance.0)) ((bytes_eq-Decides x.name x.name).1 refl)
    (both (x.port == x.port) (x.instance.0 == x.instance.0) (eq-eqb x.port x.port refl) (eq-eqb x.instance.0 x.instance.0 refl))

-- a side that has met, by its own party and its peer's
abbrev met_side : (own far : Party) (silence : ℕ) → Side Party
met_side own far silence = record { state = Estab; own = own; stored = Some far; silence = silence }

side_is : (side : Side Party) (far : Party) → side.state ≡ Estab → side.stored ≡ Some far → side ≡ met_side side.own far side.silence
side_is side far up knows = λ i. record { state = up i; own = side.own; stored = knows i; silence = side.silence }

-- *An ACK* of the peer is heard, and nothing is answered
abbrev heard_again : Side Party → Step Party
heard_again side = record { side = record side { silence = 0 }; answer = Quiet }

abbrev HearsAck : (far : Party) → Side Party → Type 0
HearsAck far side = gsmp_received side (record { kind = Ack; sender = far; receiver = side.own }) ≡ heard_again side

ack_met : (own far : Party) (silence : ℕ) → HearsAck far (met_side own far silence)
ack_met own far silence =
    ap (λ (b : Bool). followed (met_side own far silence) (heard_in (record { kind = Ack; sender = far; receiver = own })) (if b then enters_by_ack else stays Estab (Says Rstack)))
    (both (same_party own own) (same_party far far) (itself own) (itself far))

pub ack_heard : (side : Side Party) (far : Party) → side.state ≡ Estab → side.stored ≡ Some far → HearsAck far side
ack_heard side far up knows = subst (HearsAck far) (sym (side_is side far up knows)) (ack_met side.own far side.silence)

-- *A tick* below the limit is answered by an ACK
abbrev pub acked : (far : Party) → Side Party → Step Party
acked far side = record { side = aged side; answer = Send (record { kind = Ack; sender = side.own; receiver = Some far }) }

below : (silence : ℕ) → silence < silence_limit → nat_lt silence_limit (silence + 1) ≡ false
below silence low = grind (arith, nat_tests)

tick_met : (own far : Party) (silence : ℕ) → silence < silence_limit → ticked (met_side own far silence) ≡ acked far (met_side own far silence)
tick_met own far silence low = ap (λ (b : Bool). followed_tick (met_side own far silence) (if b then Resets else Says Ack)) (below silence low)

pub tick_acked : (side : Side Party) (far : Party) → side.state ≡ Estab → side.stored ≡ Some far → side.silence < silence_limit → ticked side ≡ acked far side
tick_acked side far up knows = subst (λ (s : Side Party). s.silence < silence_limit → ticked s ≡ acked far s) (sym (side_is side far up knows)) (tick_met side.own far side.silence)

-- *Sides that go on*
pub stays_so : {P : Type 0} (side : Side P) → GoesOn side side
stays_so side = record { state = refl; own = refl; stored = refl; silence = omega arith }

pub hears_again : {P : Type 0} (side : Side P) → GoesOn side (record side { silence = 0 })
hears_again side = record { state = refl; own = refl; stored = refl; silence = omega arith }

pub sides_stay_met : SidesStayMet
sides_stay_met one other one_after other_after met near far = record {
  one_is_up = near.state ∙ met.one_is_up;
  other_is_up = far.state ∙ met.other_is_up;
  one_knows = near.stored ∙ (met.one_knows ∙ ap (λ p. Some p) (sym far.own));
  other_knows = far.stored ∙ (met.other_knows ∙ ap (λ p. Some p) (sym near.own));
}
