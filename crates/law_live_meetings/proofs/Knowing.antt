-- a side stores a peer exactly in the states in which it knows one, whatever comes to it

use Rattle.std.proofs.Common.{◌≡◌, Bool, true, false, List, [], ◌∷◌, fold, Option, Some, is_some, inl, inr, refl, sym, ◌∙◌, ap, if◌then◌else◌}
use Rattle.std.specs.Option.{option_map_or}
use Rattle.live_model.specs.world_model.Words.{Said, HelloKind, Syn, Synack, Rstack, Ack, State, Clearing, SynSent, SynRcvd, Estab, Answer, Quiet, Send, Open, Side, Step, Row, Reply, Silent, Says, Resets, followed_tick, fresh, knows_peer, received, row, tick_reply, ticked}
use Rattle.live_model.specs.world_model.adjacency_table.Side.{counted}
use Rattle.live_model.specs.world_model.adjacency_table.declared.message.Answer.TheVariants.{Reset}
use Rattle.law_live_meetings.specs.Exchange.{Protocol, heard, Ends, swapped, side_after, ticks, hears_first, Act, Hears, IsCleared, HearsElse, cleared_state, acts, Turn, AtOne, AtOther, turns, Exchange, both_tick, behind}
use Rattle.law_live_meetings.proofs.Greetings.{IsFirst}

clearing_keeps : (state : State) → knows_peer state ≡ knows_peer (cleared_state state)
clearing_keeps Clearing = refl
clearing_keeps SynSent = refl
clearing_keeps SynRcvd = refl
clearing_keeps Estab = refl

module _ {P : Type 0} where
  abbrev pub Knows : Side P → Type 0
  Knows a = is_some a.stored ≡ knows_peer a.state

  pub record BothKnow (ends : Ends P) : Type 0 where
    pub one : Knows ends.one.side
    pub other : Knows ends.other.side

  abbrev RowKeeps : State → Option P → P → Row → Type 0
  RowKeeps state stored sender found = is_some stored ≡ knows_peer state → is_some (if found.stores then Some sender else stored) ≡ knows_peer found.next

  row_keeps : (state : State) (kind : HelloKind) (meant known : Bool) (stored : Option P) (sender : P) → RowKeeps state stored sender (row state kind meant known)
  row_keeps Clearing kind meant known stored sender e = e
  row_keeps SynSent Syn meant known stored sender e = refl
  row_keeps SynSent Synack true known stored sender e = refl
  row_keeps SynSent Synack false known stored sender e = e
  row_keeps SynSent Ack meant known stored sender e = e
  row_keeps SynSent Rstack meant known stored sender e = e
  row_keeps SynRcvd Syn meant known stored sender e = refl
  row_keeps SynRcvd Synack true known stored sender e = refl
  row_keeps SynRcvd Synack false known stored sender e = e
  row_keeps SynRcvd Ack true true stored sender e = e
  row_keeps SynRcvd Ack true false stored sender e = e
  row_keeps SynRcvd Ack false known stored sender e = e
  row_keeps SynRcvd Rstack meant known stored sender e = e
  row_keeps Estab Syn meant known stored sender e = e
  row_keeps Estab Synack meant known stored sender e = e
  row_keeps Estab Ack true true stored sender e = e
  row_keeps Estab Ack true false stored sender e = e
  row_keeps Estab Ack false known stored sender e = e
  row_keeps Estab Rstack meant known stored sender e = e

  tick_keeps : (a : Side P) (reply : Reply) → Knows a → Knows (followed_tick a reply).side
  tick_keeps a Silent e = e
  tick_keeps a (Says kind) e = e
  tick_keeps a Resets e = e

module _ {P : Type 0} (protocol : Protocol P) (begins : IsFirst protocol.first) where
  fresh_knows : (d : P) → Knows (fresh protocol.first d)
  fresh_knows d = by begins
    where
      by : IsFirst protocol.first → false ≡ knows_peer protocol.first
      by (inl e) = ap knows_peer (sym e)
      by (inr e) = ap knows_peer (sym e)

  after_keeps : (d : P) (answer : Answer (Said P) P) (side : Side P) → Knows side → Knows (side_after (fresh protocol.first d) answer side)
  after_keeps d Quiet side e = e
  after_keeps d (Send m) side e = e
  after_keeps d (Open m own) side e = e
  after_keeps d Reset side e = fresh_knows d

  ticks_keep : (ends : Ends P) (d : P) → BothKnow ends → BothKnow (ticks protocol ends d)
  ticks_keep ends d k =
      let a : Side P = ends.one.side in
      record {
        one = after_keeps d (ticked a).answer (ticked a).side (tick_keeps a (tick_reply a.state (counted a.state a.silence)) k.one);
        other = k.other;
      }

  hears_keeps : (ends : Ends P) (d : P) (comes : List (Said P)) → BothKnow ends → BothKnow (hears_first protocol ends d comes)
  hears_keeps ends d [] k = k
  hears_keeps ends d (m ∷ later) k =
      let a : Side P = ends.one.side in
      let step : Step P = received protocol.same a (heard protocol m) in
      record {
        one = after_keeps d step.answer step.side (row_keeps a.state m.kind (protocol.same (heard protocol m).receiver a.own) (option_map_or (protocol.same m.sender) a.stored false) a.stored m.sender k.one);
        other = k.other;
      }

  acts_keep : (ends : Ends P) (act : Act P) → BothKnow ends → BothKnow (acts protocol ends act)
  acts_keep ends (Hears d) k = hears_keeps ends d ends.one.comes k
  acts_keep ends IsCleared k = record { one = k.one ∙ clearing_keeps ends.one.side.state; other = k.other }
  acts_keep ends HearsElse k = record { one = k.one; other = k.other }

  swaps : (ends : Ends P) → BothKnow ends → BothKnow (swapped ends)
  swaps ends k = record { one = k.other; other = k.one }

  turns_keep : (ts : List (Turn P)) (ends : Ends P) → BothKnow ends → BothKnow (fold (turns protocol) ends ts)
  turns_keep [] ends k = k
  turns_keep (AtOne act ∷ ts) ends k = turns_keep ts (acts protocol ends act) (acts_keep ends act k)
  turns_keep (AtOther act ∷ ts) ends k =
      turns_keep ts (turns protocol ends (AtOther act)) (swaps (acts protocol (swapped ends) act) (acts_keep (swapped ends) act (swaps ends k)))

  pub exchange_keeps : (ends : Ends P) (exchange : Exchange P) → BothKnow ends → BothKnow (behind protocol ends exchange)
  exchange_keeps ends exchange k =
      let first : Ends P = ticks protocol ends exchange.drawn_by_one in
      let second : Ends P = ticks protocol (swapped first) exchange.drawn_by_other in
      turns_keep exchange.then_come (both_tick protocol ends exchange.drawn_by_one exchange.drawn_by_other)
      (swaps second (ticks_keep (swapped first) exchange.drawn_by_other (swaps first (ticks_keep ends exchange.drawn_by_one k))))
