-- the laws of a port

use Rattle.std.proofs.Common.{ℕ, arith}
use Rattle.claims_model.specs.world_model.Words.{empty_desk, Work}
use Rattle.claims_model.specs.Costs.{message_cost, offer_weight}
use Rattle.law_port_weights.specs.Law.{IsPaid, HearingIsPaid, CountingIsPaid, UseIsFree, AnswersAreFree, PartingIsFree, GivingBackIsFree}
use Rattle.law_port_weights.proofs.Works.{Costs, due_some}
use Rattle.law_port_weights.proofs.Rules.{hears_cost, used_free}
use Rattle.law_port_weights.proofs.Answered.{counts_cost, done_free, parted_free, given_back_free}

paid : (changes count : ℕ) (w v : Work) → Costs changes count w v → IsPaid changes count w v
paid changes count w v c = omega (arith, c.cost, due_some w.halted count)

pub hearing_is_paid : HearingIsPaid
hearing_is_paid changes setup desk w source message = paid changes (message_cost message) w _ (hears_cost changes setup desk w source message)

pub counting_is_paid : CountingIsPaid
counting_is_paid changes setup desk w packet once = paid changes offer_weight w _ (counts_cost changes setup desk w packet once)

pub use_is_free : UseIsFree
use_is_free changes w number = paid changes 0 w _ (used_free changes w number)

pub answers_are_free : AnswersAreFree
answers_are_free changes setup w request = paid changes 0 w _ (done_free changes setup empty_desk w request)

pub parting_is_free : PartingIsFree
parting_is_free changes w number = paid changes 0 w _ (parted_free changes w number)

pub giving_back_is_free : GivingBackIsFree
giving_back_is_free changes w grant granted = paid changes 0 w _ (given_back_free changes w grant granted)
