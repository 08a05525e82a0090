-- the requests that frames ask, one behind another

use Rattle.std.proofs.Common.{List, [], ◌∷◌, ◌++◌}
use Rattle.world_model.specs.Words.{Mark, Frame}
use Rattle.world_model.specs.switch_model.declared.request.Asked.{Asked}
use Rattle.law_running_worlds.specs.law_shown_cells.Seen.{Extends}
use Rattle.law_live_mirrored_worlds.specs.Way.{Asks, AsksNothing, AreAsked, none, asking, passed}

-- *They stay* while what was made does
asks_later : (before after : List Frame) → Extends before after → (mark : Mark) (asked : Asked) → Asks before mark asked → Asks after mark asked
asks_later before after stays mark asked is =
    record { payload = is.payload; made = stays.kept mark is.payload is.made; message = is.message; read = is.read; request = is.request; asks = is.asks }

nothing_later : (before after : List Frame) → Extends before after → (mark : Mark) → AsksNothing before mark → AsksNothing after mark
nothing_later before after stays mark is = record { payload = is.payload; made = stays.kept mark is.payload is.made; no_request = is.no_request }

pub asked_later : (before after : List Frame) → Extends before after → (marks : List Mark) (way : List Asked) → AreAsked before marks way → AreAsked after marks way
asked_later before after stays [] way none = none
asked_later before after stays (mark ∷ marks) (asked ∷ way) (asking own one is later) = asking own one (asks_later before after stays own one is) (asked_later before after stays marks way later)
asked_later before after stays (mark ∷ marks) way (passed own is later) = passed own (nothing_later before after stays own is) (asked_later before after stays marks way later)

-- *One behind another*
pub asked_join : (frames : List Frame) (xs ys : List Mark) (way more : List Asked) → AreAsked frames xs way → AreAsked frames ys more → AreAsked frames (xs ++ ys) (way ++ more)
asked_join frames [] ys way more none rest = rest
asked_join frames (mark ∷ xs) ys (asked ∷ way) more (asking own one is later) rest = asking own one is (asked_join frames xs ys way more later rest)
asked_join frames (mark ∷ xs) ys way more (passed own is later) rest = passed own is (asked_join frames xs ys way more later rest)
