-- the laws of carries

use Rattle.std.proofs.Common.{List, ◌++◌, refl, sym, ◌∙◌, ap, map}
use Rattle.std.specs.List.{repeat}
use Rattle.world_model.specs.Words.{Place}
use Rattle.world_model.specs.network_model.declared.event.Event.TheVariants.{Carry}
use Rattle.law_quiet_links.specs.Law.{CarriesWeighLess, CarriesFind, RoundsMakeLighter, RoundsEmptyQueues, PacketsEnd}
use Rattle.law_quiet_links.proofs.Carried.{weighs_less}
use Rattle.law_quiet_rounds.proofs.Places.{places_stay}
use Rattle.law_quiet_rounds.proofs.Rounds.{found_all, rounds_are_lighter, rounds_are_quiet}

pub carries_weigh_less : CarriesWeighLess
carries_weigh_less policy topology before place comes is places channels unused = weighs_less policy topology before place comes is places channels unused

pub carries_find : CarriesFind
carries_find policy topology before places less = found_all policy topology (before ++ map Carry places) less places before refl

pub rounds_make_lighter : RoundsMakeLighter
rounds_make_lighter policy topology events run addresses less before count e some = rounds_are_lighter policy topology events less before count
    (e ∙ ap (λ (ps : List Place). before ++ repeat count (map Carry ps)) (sym (places_stay policy topology events run addresses))) some

pub rounds_empty_queues : RoundsEmptyQueues
rounds_empty_queues policy topology events run addresses less before count e le = rounds_are_quiet policy topology events less before count
    (e ∙ ap (λ (ps : List Place). before ++ repeat count (map Carry ps)) (sym (places_stay policy topology events run addresses))) le

pub packets_end : PacketsEnd
packets_end policy topology events run addresses less fates before count e le number was free =
    fates (rounds_empty_queues policy topology events run addresses less before count e le) number was free
