-- neither end of a control link is ever one that waits to be cleared

use Rattle.std.proofs.Common.{◌≢◌, Bool, true, false, List, [], ◌∷◌, fold, refl}
use Rattle.world_model.specs.Words.{Party, HelloKind, Syn, Synack, Ack, Rstack, State, Clearing, SynSent, SynRcvd, Estab, Said, Answer, Quiet, Send, Open, Reply, Silent, Says, Resets, Side, fresh, row, ticked, followed_tick, tick_reply}
use Rattle.world_model.specs.adjacency_table.declared.message.Answer.TheVariants.{Reset}
use Rattle.world_model.specs.adjacency_table.Side.{counted}
use Rattle.law_live_meetings.specs.Exchange.{gsmp, Ends, swapped, side_after, ticks, Act, Hears, IsCleared, HearsElse, cleared_state, hears_first, acts, Turn, AtOne, AtOther, turns, both_tick, Exchange, behind}

abbrev pub IsClear : State → Type 0
IsClear state = state ≢ Clearing

row_clear : (state : State) (kind : HelloKind) (meant known : Bool) → IsClear state → IsClear (row state kind meant known).next
row_clear Clearing kind meant known clear = absurd (clear refl)
row_clear SynSent Syn meant known clear = λ e. cc e
row_clear SynSent Synack true known clear = λ e. cc e
row_clear SynSent Synack false known clear = λ e. cc e
row_clear SynSent Ack meant known clear = λ e. cc e
row_clear SynSent Rstack meant known clear = λ e. cc e
row_clear SynRcvd Syn meant known clear = λ e. cc e
row_clear SynRcvd Synack true known clear = λ e. cc e
row_clear SynRcvd Synack false known clear = λ e. cc e
row_clear SynRcvd Ack true true clear = λ e. cc e
row_clear SynRcvd Ack true false clear = λ e. cc e
row_clear SynRcvd Ack false known clear = λ e. cc e
row_clear SynRcvd Rstack meant known clear = λ e. cc e
row_clear Estab Syn meant known clear = λ e. cc e
row_clear Estab Synack meant known clear = λ e. cc e
row_clear Estab Ack true true clear = λ e. cc e
row_clear Estab Ack true false clear = λ e. cc e
row_clear Estab Ack false known clear = λ e. cc e
row_clear Estab Rstack meant known clear = λ e. cc e

after_clear : (drawn : Party) (answer : Answer (Said Party) Party) (side : Side Party) → IsClear side.state → IsClear (side_after (fresh gsmp.first drawn) answer side).state
after_clear drawn Quiet side clear = clear
after_clear drawn (Send m) side clear = clear
after_clear drawn (Open m own) side clear = clear
after_clear drawn Reset side clear = λ e. cc e

tick_clear : (side : Side Party) → IsClear side.state → IsClear (ticked side).side.state
tick_clear side clear = by (tick_reply side.state (counted side.state side.silence))
  where
    by : (reply : Reply) → IsClear (followed_tick side reply).side.state
    by Silent = clear
    by (Says kind) = clear
    by Resets = clear

-- *Both ends*, behind a tick, a turn and an exchange
abbrev pub AreClear : Ends Party → Type 0
AreClear ends = IsClear ends.one.side.state × IsClear ends.other.side.state

swap_clear : (ends : Ends Party) → AreClear ends → AreClear (swapped ends)
swap_clear ends clear = (clear.1, clear.0)

ticks_clear : (ends : Ends Party) (drawn : Party) → AreClear ends → AreClear (ticks gsmp ends drawn)
ticks_clear ends drawn clear = (after_clear drawn (ticked ends.one.side).answer (ticked ends.one.side).side (tick_clear ends.one.side clear.0), clear.1)

hears_clear : (ends : Ends Party) (drawn : Party) (comes : List (Said Party)) → AreClear ends → AreClear (hears_first gsmp ends drawn comes)
hears_clear ends drawn [] clear = clear
hears_clear ends drawn (message ∷ later) clear = (after_clear drawn _ _ (row_clear ends.one.side.state message.kind _ _ clear.0), clear.1)

cleared_clear : (state : State) → IsClear state → IsClear (cleared_state state)
cleared_clear Clearing clear = absurd (clear refl)
cleared_clear SynSent clear = clear
cleared_clear SynRcvd clear = clear
cleared_clear Estab clear = clear

acts_clear : (ends : Ends Party) (act : Act Party) → AreClear ends → AreClear (acts gsmp ends act)
acts_clear ends (Hears drawn) clear = hears_clear ends drawn ends.one.comes clear
acts_clear ends IsCleared clear = (cleared_clear ends.one.side.state clear.0, clear.1)
acts_clear ends HearsElse clear = clear

turns_clear : (ends : Ends Party) (turn : Turn Party) → AreClear ends → AreClear (turns gsmp ends turn)
turns_clear ends (AtOne act) clear = acts_clear ends act clear
turns_clear ends (AtOther act) clear = swap_clear (acts gsmp (swapped ends) act) (acts_clear (swapped ends) act (swap_clear ends clear))

all_clear : (come : List (Turn Party)) (ends : Ends Party) → AreClear ends → AreClear (fold (turns gsmp) ends come)
all_clear [] ends clear = clear
all_clear (turn ∷ come) ends clear = all_clear come (turns gsmp ends turn) (turns_clear ends turn clear)

pub behind_clear : (ends : Ends Party) (exchange : Exchange Party) → AreClear ends → AreClear (behind gsmp ends exchange)
behind_clear ends exchange clear =
    let first : Ends Party = ticks gsmp ends exchange.drawn_by_one in
    let second : Ends Party = ticks gsmp (swapped first) exchange.drawn_by_other in
    all_clear exchange.then_come (both_tick gsmp ends exchange.drawn_by_one exchange.drawn_by_other)
    (swap_clear second (ticks_clear (swapped first) exchange.drawn_by_other (swap_clear first (ticks_clear ends exchange.drawn_by_one clear))))
