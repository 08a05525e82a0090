-- what a message or a tick makes of the side of an adjacency

use Rattle.std.proofs.Common.{◌≡◌, ◌≢◌, ℕ, Bool, true, false, Option, Some, refl, sym, ◌∙◌, ap, subst, if◌then◌else◌, inl, inr}
use Rattle.std.specs.Prelude.{◌⊎◌, ◌&&◌, not}
use Rattle.std.specs.Option.{option_map_or}
use Rattle.law_controller_bindings.specs.world_model.Words.{PortNo, Addr, Hello, Peer, HelloKind, Syn, Synack, Rstack, Ack, State, Clearing, SynSent, SynRcvd, Estab, Said, Heard, Answer, Send, Open, Reply, Silent, Says, Resets, Row, row, stays, stores_and, enters_by_synack, enters_by_ack, tick_reply, Side, answer_of, answer_to, said, is_entry, followed, followed_tick, ticked, same_peer, heard_from, ifmp_received}
use Rattle.law_controller_bindings.specs.world_model.adjacency_table.Side as sides
use Rattle.law_controller_bindings.specs.world_model.adjacency_table.Side.{answer_opened, counted}
use Rattle.law_controller_bindings.proofs.law_port_facts.Keyed.{on_both}
use Rattle.law_world_views.specs.Tied.{is_rstack}
use Rattle.law_port_words.specs.Words.{Terms}
use Rattle.law_port_words.proofs.Voices.{IsTurn}

-- *A row of the table* leads neither to Clearing nor away from it, says nothing there, and stores no sender of an RSTACK
record IsRow (state : State) (kind : HelloKind) (r : Row) : Type 0 where
  left : r.next ≢ Clearing → state ≢ Clearing
  stays_so : state ≢ Clearing → r.next ≢ Clearing
  silent : state ≡ Clearing → r.reply ≡ Silent
  same : state ≡ Clearing → r.next ≡ Clearing
  stored : r.stores ≡ true → is_rstack kind ≡ false

stays_row : (state : State) (kind : HelloKind) (reply : Reply) → state ≢ Clearing → IsRow state kind (stays state reply)
stays_row state kind reply live = record { left = λ n. n; stays_so = λ n. n; silent = λ e. absurd (live e); same = λ e. e; stored = λ e. absurd (cc e) }

sent_away : SynSent ≢ Clearing
sent_away e = absurd (cc e)

rcvd_away : SynRcvd ≢ Clearing
rcvd_away e = absurd (cc e)

estab_away : Estab ≢ Clearing
estab_away e = absurd (cc e)

-- a row by which a side that isn't in Clearing stores what is no RSTACK, and stays out of it
live_row : (state : State) (kind : HelloKind) (r : Row) → state ≢ Clearing → r.next ≢ Clearing → is_rstack kind ≡ false → IsRow state kind r
live_row state kind r live next kept = record { left = λ n. live; stays_so = λ n. next; silent = λ e. absurd (live e); same = λ e. absurd (live e); stored = λ e. kept }

confirmed_row : (state : State) (kind : HelloKind) → state ≢ Clearing → IsRow state kind enters_by_ack
confirmed_row state kind live = record { left = λ n. live; stays_so = λ n. estab_away; silent = λ e. absurd (live e); same = λ e. absurd (live e); stored = λ e. absurd (cc e) }

rows : (state : State) (kind : HelloKind) (meant known : Bool) → IsRow state kind (row state kind meant known)
rows Clearing kind meant known = record { left = λ n. n; stays_so = λ n. n; silent = λ e. refl; same = λ e. e; stored = λ e. absurd (cc e) }
rows SynSent Syn meant known = live_row SynSent Syn (stores_and SynRcvd Synack) sent_away rcvd_away refl
rows SynSent Synack meant known = on_both (IsRow SynSent Synack) meant enters_by_synack (stays SynSent (Says Rstack)) (live_row SynSent Synack enters_by_synack sent_away estab_away refl) (stays_row SynSent Synack (Says Rstack) sent_away)
rows SynSent Ack meant known = stays_row SynSent Ack (Says Rstack) sent_away
rows SynSent Rstack meant known = stays_row SynSent Rstack Silent sent_away
rows SynRcvd Syn meant known = live_row SynRcvd Syn (stores_and SynRcvd Synack) rcvd_away rcvd_away refl
rows SynRcvd Synack meant known = on_both (IsRow SynRcvd Synack) meant enters_by_synack (stays SynRcvd (Says Rstack)) (live_row SynRcvd Synack enters_by_synack rcvd_away estab_away refl) (stays_row SynRcvd Synack (Says Rstack) rcvd_away)
rows SynRcvd Ack meant known = on_both (IsRow SynRcvd Ack) (meant && known) enters_by_ack (stays SynRcvd (Says Rstack)) (confirmed_row SynRcvd Ack rcvd_away) (stays_row SynRcvd Ack (Says Rstack) rcvd_away)
rows SynRcvd Rstack meant known = stays_row SynRcvd Rstack (if meant && known then Resets else Silent) rcvd_away
rows Estab Syn meant known = stays_row Estab Syn (Says Ack) estab_away
rows Estab Synack meant known = stays_row Estab Synack (Says Ack) estab_away
rows Estab Ack meant known = on_both (IsRow Estab Ack) (meant && known) enters_by_ack (stays Estab (Says Rstack)) (confirmed_row Estab Ack estab_away) (stays_row Estab Ack (Says Rstack) estab_away)
rows Estab Rstack meant known = stays_row Estab Rstack (if meant && known then Resets else Silent) estab_away

-- *What is answered*
own_said : (a : Side Peer) (m : Heard Peer) (kind : HelloKind) → is_rstack (answer_to a m kind).kind ≡ false → (answer_to a m kind).sender ≡ a.own
own_said a m Syn e = refl
own_said a m Synack e = refl
own_said a m Ack e = refl
own_said a m Rstack e = absurd (cc e)

own_ticked : (a : Side Peer) (kind : HelloKind) → (said a kind).sender ≡ a.own
own_ticked a Syn = refl
own_ticked a Synack = refl
own_ticked a Ack = refl
own_ticked a Rstack = refl

-- a reply, and what opens by it
record Replies (state : State) (own : Peer) (says : HelloKind → Said Peer) (entry : Bool) (opener : Peer) (reply : Reply) : Type 0 where
  sends : (message : Said Peer) → (if entry then answer_opened opener (answer_of says reply) else answer_of says reply) ≡ Send message → is_rstack message.kind ≡ false → (state ≢ Clearing) × (message.sender ≡ own)
  opens : (message : Said Peer) (by : Peer) → (if entry then answer_opened opener (answer_of says reply) else answer_of says reply) ≡ Open (Some message) by → is_rstack message.kind ≡ false → (state ≢ Clearing) × (message.sender ≡ own)

abbrev sending : Said Peer → Answer (Said Peer) Peer
sending message = Send message

sent_is : (x y : Said Peer) → sending x ≡ sending y → x ≡ y
sent_is x y e = cc

opened_is : (x y : Said Peer) (a b : Peer) → Open (Some x) a ≡ Open (Some y) b → x ≡ y
opened_is x y a b e = cc

replied : (state : State) (own : Peer) (says : HelloKind → Said Peer) (opener : Peer) (entry : Bool) (reply : Reply) → (state ≡ Clearing → reply ≡ Silent)
    → ((kind : HelloKind) → is_rstack (says kind).kind ≡ false → (says kind).sender ≡ own) → Replies state own says entry opener reply
replied state own says opener true Silent silent owns = record { sends = λ message e. absurd (cc e); opens = λ message by e. absurd (cc e) }
replied state own says opener false Silent silent owns = record { sends = λ message e. absurd (cc e); opens = λ message by e. absurd (cc e) }
replied state own says opener true Resets silent owns = record { sends = λ message e. absurd (cc e); opens = λ message by e. absurd (cc e) }
replied state own says opener false Resets silent owns = record { sends = λ message e. absurd (cc e); opens = λ message by e. absurd (cc e) }
replied state own says opener true (Says kind) silent owns = record {
  sends = λ message e. absurd (cc e);
  opens = λ message by e k. (let same : says kind ≡ message = opened_is (says kind) message opener by e in
      ((λ c. absurd (cc (silent c))), ap (λ (m : Said Peer). m.sender) (sym same) ∙ owns kind (ap (λ (m : Said Peer). is_rstack m.kind) same ∙ k)));
}
replied state own says opener false (Says kind) silent owns = record {
  sends = λ message e k. (let same : says kind ≡ message = sent_is (says kind) message e in
      ((λ c. absurd (cc (silent c))), ap (λ (m : Said Peer). m.sender) (sym same) ∙ owns kind (ap (λ (m : Said Peer). is_rstack m.kind) same ∙ k)));
  opens = λ message by e. absurd (cc e);
}

-- *Entering Estab* leads out of Clearing
entry_live : (before after : State) → is_entry before after ≡ true → after ≢ Clearing
entry_live before Clearing e = absurd (cc (sym e ∙ closed (sides.is_estab before)))
  where
    closed : (b : Bool) → (not b && false) ≡ false
    closed true = refl
    closed false = refl
entry_live before SynSent e = sent_away
entry_live before SynRcvd e = rcvd_away
entry_live before Estab e = estab_away

module _ (t : Terms) (port : PortNo) where
  followed_turns : (a : Side Peer) (m : Heard Peer) (r : Row) → IsRow a.state m.kind r → (is_rstack m.kind ≡ false → t.known port m.sender.instance.0) → IsTurn t port a (followed a m r)
  followed_turns a m r is knows = record {
    own = refl;
    left = is.left;
    stays = is.stays_so;
    stored = stores r.stores refl;
    sends = says.sends;
    opens = says.opens;
    enters = entering (is_entry a.state r.next) refl;
  }
    where
      next : Side Peer
      next = record { state = r.next; own = a.own; stored = if r.stores then Some m.sender else a.stored; silence = if r.clears_silence then 0 else a.silence }

      says : Replies a.state a.own (answer_to next m) (is_entry a.state r.next) a.own r.reply
      says = replied a.state a.own (answer_to next m) a.own (is_entry a.state r.next) r.reply is.silent (own_said next m)

      stores : (b : Bool) → r.stores ≡ b → (peer : Peer) → (if b then Some m.sender else a.stored) ≡ Some peer → (a.stored ≡ Some peer) ⊎ t.known port peer.instance.0
      stores true e peer f = inr (let same : m.sender ≡ peer = cc in subst (λ (p : Peer). t.known port p.instance.0) same (knows (is.stored e)))
      stores false e peer f = inl f

      unopened : (says : HelloKind → Said Peer) (reply : Reply) (message : Option (Said Peer)) (own : Peer) → answer_of says reply ≡ Open message own → ⊥
      unopened says Silent message own e = absurd (cc e)
      unopened says (Says kind) message own e = absurd (cc e)
      unopened says Resets message own e = absurd (cc e)

      entering : (b : Bool) → is_entry a.state r.next ≡ b → (message : Option (Said Peer)) (own : Peer)
          → (if b then answer_opened a.own (answer_of (answer_to next m) r.reply) else answer_of (answer_to next m) r.reply) ≡ Open message own → r.next ≢ Clearing
      entering true e message own f = entry_live a.state r.next e
      entering false e message own f = absurd (unopened (answer_to next m) r.reply message own f)

  -- *A message* of a sender that is known, where it tells its own instance
  pub received_turns : (a : Side Peer) (source : Addr) (hello : Hello) → (is_rstack hello.kind ≡ false → t.known port hello.sender.0) → IsTurn t port a (ifmp_received a source hello)
  received_turns a source hello knows = followed_turns a (heard_from source hello)
      (row a.state hello.kind (same_peer (heard_from source hello).receiver a.own) (option_map_or (same_peer (heard_from source hello).sender) a.stored false))
      (rows a.state hello.kind (same_peer (heard_from source hello).receiver a.own) (option_map_or (same_peer (heard_from source hello).sender) a.stored false)) knows

  -- *A tick*
  tick_turns : (a : Side Peer) (reply : Reply) → (a.state ≡ Clearing → reply ≡ Silent) → IsTurn t port a (followed_tick a reply)
  tick_turns a Resets silent = record {
    own = refl;
    left = λ n. n;
    stays = λ n. n;
    stored = λ peer e. inl e;
    sends = λ message e. absurd (cc e);
    opens = λ message own e. absurd (cc e);
    enters = λ message own e. absurd (cc e);
  }
  tick_turns a Silent silent = record {
    own = refl;
    left = λ n. n;
    stays = λ n. n;
    stored = λ peer e. inl e;
    sends = λ message e. absurd (cc e);
    opens = λ message own e. absurd (cc e);
    enters = λ message own e. absurd (cc e);
  }
  tick_turns a (Says kind) silent = record {
    own = refl;
    left = λ n. n;
    stays = λ n. n;
    stored = λ peer e. inl e;
    sends = λ message e k. (let same : said a kind ≡ message = sent_is (said a kind) message e in ((λ c. absurd (cc (silent c))), ap (λ (m : Said Peer). m.sender) (sym same) ∙ own_ticked a kind));
    opens = λ message own e. absurd (cc e);
    enters = λ message own e. absurd (cc e);
  }

  silent_tick : (state : State) (silence : ℕ) → state ≡ Clearing → tick_reply state silence ≡ Silent
  silent_tick state silence e = ap (λ (s : State). tick_reply s silence) e

  pub ticked_turns : (a : Side Peer) → IsTurn t port a (ticked a)
  ticked_turns a = tick_turns a (tick_reply a.state (counted a.state a.silence)) (silent_tick a.state (counted a.state a.silence))
