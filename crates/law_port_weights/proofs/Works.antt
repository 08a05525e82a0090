-- what the smallest steps of a port at work cost. A port that is halted does nothing, so there a step is neither paid nor pays

use Rattle.std.proofs.Common.{◌≡◌, ℕ, ◌≤◌, ◌+◌, Bool, true, false, List, [], ◌∷◌, Option, None, Some, refl, sym, ◌∙◌, ap, arith, if◌then◌else◌, fold}
use Rattle.std.specs.Prelude.{nat_lt}
use Rattle.std.specs.Option.{option_map, option_map_or}
use Rattle.std.proofs.lemmas.Bool.Decides.{nat_tests}
use Rattle.claims_model.specs.world_model.Words.{Peer, Side, at, put, without, entered, key_le, Action, Say, Label, label_number, Grant, grant_label, Session, Work, halts, with_session, with_label, without_label, with_new_label, with_grants, with_grant, without_grant, label_at, Unnumbered, last_number, spent_number, own_instance, tells_in, tells, is_spent, halts_if_spent}
use Rattle.claims_model.specs.world_model.port_model.declared.action.Action.TheVariants as actions
use Rattle.claims_model.specs.world_model.port_model.Port.{Port, with_action}
use Rattle.claims_model.specs.world_model.port_model.Saying.{peer_instance, with_number, says}
use Rattle.claims_model.specs.Costs.{total_weight, frame_weight, reset_weight, spending_weight, message_cost, label_cost}
use Rattle.claims_model.specs.Weights.{state_cost}
use Rattle.law_port_weights.specs.Works.{action_cost, work_weight}
use Rattle.law_port_facts.proofs.Keyed.{on_both, on_each}
use Rattle.law_port_weights.proofs.Sums.{total_more, total_entered, total_put, total_put_free, total_left, total_without}

-- what is due of a live port
abbrev pub due : (halted : Bool) → ℕ → ℕ
due true count = 0
due false count = count

pub due_some : (b : Bool) (count : ℕ) → due b count ≤ count
due_some true count = omega arith
due_some false count = omega arith

-- either state of a port at work
pub live_or_halted : (P : Work → Type 0) → ((port : Port) (done : List Action) (instances : ℕ) → P (record { port = port; actions = done; halted = true; instances = instances }))
    → ((port : Port) (done : List Action) (instances : ℕ) → P (record { port = port; actions = done; halted = false; instances = instances })) → (w : Work) → P w
live_or_halted P halted live w = by w.halted
  where
    by : (b : Bool) → P (record { port = w.port; actions = w.actions; halted = b; instances = w.instances })
    by true = halted w.port w.actions w.instances
    by false = live w.port w.actions w.instances

-- *A session*: its labels, and the reset of spent numbers
abbrev pub cost_of_label : Label → ℕ
cost_of_label label = label_cost label.state

abbrev pub labels_in : Option Session → List Label
labels_in o = option_map_or (λ s. s.labels) o []

abbrev pub spent_cost : Option Session → ℕ
spent_cost o = if is_spent o then reset_weight else 0

abbrev pub session_weight : Option Session → ℕ
session_weight o = total_weight cost_of_label (labels_in o) + spent_cost o

put_session : (o : Option Session) (old new : Label) → at label_number new.number (labels_in o) ≡ Some old
    → session_weight (option_map (λ (s : Session). record s { labels = put label_number new s.labels }) o) + cost_of_label old ≡ session_weight o + cost_of_label new
put_session None old new e = absurd (cc e)
put_session (Some s) old new e = omega (arith, total_put cost_of_label label_number new s.labels old e)

without_session : (o : Option Session) (old : Label) (number : ℕ) → at label_number number (labels_in o) ≡ Some old
    → session_weight (option_map (λ (s : Session). record s { labels = without label_number number s.labels }) o) + cost_of_label old ≤ session_weight o
without_session None old number e = absurd (cc e)
without_session (Some s) old number e = omega (arith, total_without cost_of_label label_number number s.labels old e)

enter_session : (o : Option Session) (new : Label)
    → session_weight (option_map (λ (s : Session). record s { labels = entered (key_le label_number) new s.labels }) o) ≤ session_weight o + cost_of_label new
enter_session None new = omega arith
enter_session (Some s) new = omega (arith, total_entered cost_of_label (key_le label_number) new s.labels)

module _ (changes : ℕ) where
  abbrev pub cost_of_grant : Grant → ℕ
  cost_of_grant grant = state_cost changes grant.state

  abbrev pub W : Work → ℕ
  W w = work_weight changes w

  -- so much is paid at most; and so much is got where so much is paid
  pub record Costs (count : ℕ) (w v : Work) : Type 0 where
    pub cost : W v ≤ W w + due w.halted count
    pub stays : (k : ℕ) → due v.halted k ≤ due w.halted k

  pub record Trades (got paid : ℕ) (w v : Work) : Type 0 where
    pub cost : W v + due w.halted got ≤ W w + due w.halted paid
    pub same : v.halted ≡ w.halted

  pub costs_none : (count : ℕ) (w : Work) → Costs count w w
  costs_none count w = record { cost = omega arith; stays = λ k. omega arith }

  pub at_most : (j k : ℕ) (w v : Work) → j ≤ k → Costs j w v → Costs k w v
  at_most j k w v le c = record { cost = omega (arith, c.cost, more w.halted); stays = c.stays }
    where
      more : (b : Bool) → due b j ≤ due b k
      more true = omega arith
      more false = omega (arith, le)

  pub one_after : (j k : ℕ) (u v w : Work) → Costs j u v → Costs k v w → Costs (j + k) u w
  one_after j k u v w c d = record { cost = omega (arith, c.cost, d.cost, c.stays k, both u.halted); stays = λ n. omega (arith, c.stays n, d.stays n) }
    where
      both : (b : Bool) → due b j + due b k ≡ due b (j + k)
      both true = omega arith
      both false = omega arith

  pub after_none : (k : ℕ) (u v w : Work) → Costs 0 u v → Costs k v w → Costs k u w
  after_none k u v w c d = at_most (0 + k) k u w (omega arith) (one_after 0 k u v w c d)

  pub none_after : (k : ℕ) (u v w : Work) → Costs k u v → Costs 0 v w → Costs k u w
  none_after k u v w c d = at_most (k + 0) k u w (omega arith) (one_after k 0 u v w c d)

  -- a trade pays for what comes behind it
  pub trade_then : (got paid k count : ℕ) (u v w : Work) → paid + k ≤ got + count → Trades got paid u v → Costs k v w → Costs count u w
  trade_then got paid k count u v w le t c = record {
    cost = omega (arith, t.cost, c.cost, ap (λ (b : Bool). due b k) t.same, even u.halted);
    stays = λ n. omega (arith, c.stays n, ap (λ (b : Bool). due b n) t.same);
  }
    where
      even : (b : Bool) → due b paid + due b k ≤ due b got + due b count
      even true = omega arith
      even false = omega (arith, le)

  pub trade : (got paid count : ℕ) (u v : Work) → paid ≤ got + count → Trades got paid u v → Costs count u v
  trade got paid count u v le t = trade_then got paid 0 count u v v (omega (arith, le)) t (costs_none 0 v)

  pub costs_fold : {A : Type 0} (f : Work → A → Work) → ((w : Work) (x : A) → Costs 0 w (f w x)) → (xs : List A) (w : Work) → Costs 0 w (fold f w xs)
  costs_fold f each [] w = costs_none 0 w
  costs_fold f each (x ∷ xs) w = after_none 0 w (f w x) (fold f (f w x) xs) (each w x) (costs_fold f each xs (f w x))

  -- *An action*, and a reset that is asked
  pub acts_cost : (w : Work) (action : Action) → Costs (action_cost action) w (with_action w action)
  acts_cost w action = live_or_halted (λ w. Costs (action_cost action) w (with_action w action))
      (λ port done instances. record { cost = omega arith; stays = λ k. omega arith })
      (λ port done instances. record { cost = omega (arith, total_more action_cost done action); stays = λ k. omega arith }) w

  pub halts_cost : (w : Work) → Costs reset_weight w (halts w)
  halts_cost = live_or_halted (λ w. Costs reset_weight w (halts w))
      (λ port done instances. record { cost = omega arith; stays = λ k. omega arith })
      (λ port done instances. record { cost = omega (arith, total_more action_cost done actions.Reset); stays = λ k. omega arith })

  -- what changes neither labels, grants nor actions
  pub turned_cost : (w : Work) (side : Side Peer) → Costs 0 w (record w { port = record w.port { adjacency = side } })
  turned_cost w side = record { cost = omega arith; stays = λ k. omega arith }

  -- *A session changes*
  pub session_cost : (w : Work) (change : Session → Session) (count : ℕ) → ((s : Session) → session_weight (Some (change s)) ≤ session_weight (Some s) + count)
      → Costs count w (with_session w change)
  session_cost w change count le = live_or_halted (λ w. Costs count w (with_session w change))
      (λ port done instances. record { cost = omega arith; stays = λ k. omega arith })
      (λ port done instances. record { cost = (let h : session_weight (option_map change port.session) ≤ session_weight port.session + count = by port.session in omega (arith, h)); stays = λ k. omega arith }) w
    where
      by : (o : Option Session) → session_weight (option_map change o) ≤ session_weight o + count
      by None = omega arith
      by (Some s) = le s

  -- one that is put in its place
  pub session_put : (w : Work) (s new : Session) → w.port.session ≡ Some s → new.labels ≡ s.labels → new.number ≡ s.number → Costs 0 w (with_session w (λ old. new))
  session_put w s new is labels number = live_or_halted (λ w. w.port.session ≡ Some s → Costs 0 w (with_session w (λ old. new)))
      (λ port done instances e. record { cost = omega arith; stays = λ k. omega arith })
      (λ port done instances e. record { cost = (let h : session_weight (option_map (λ (old : Session). new) port.session) ≤ session_weight port.session = by port.session e in omega (arith, h)); stays = λ k. omega arith }) w is
    where
      by : (o : Option Session) → o ≡ Some s → session_weight (option_map (λ (old : Session). new) o) ≤ session_weight o
      by None e = absurd (cc e)
      by (Some t) e = (let same : t ≡ s = cc in
          omega (arith, ap (total_weight cost_of_label) (labels ∙ ap (λ (x : Session). x.labels) (sym same)), ap (λ (n : ℕ). if nat_lt last_number n then reset_weight else 0) (number ∙ ap (λ (x : Session). x.number) (sym same))))

  -- one that keeps labels and numbers
  pub kept_cost : (w : Work) (change : Session → Session) → ((s : Session) → (change s).labels ≡ s.labels) → ((s : Session) → (change s).number ≡ s.number)
      → Costs 0 w (with_session w change)
  kept_cost w change labels number = session_cost w change 0
      (λ s. omega (arith, ap (total_weight cost_of_label) (labels s), ap (λ (n : ℕ). if nat_lt last_number n then reset_weight else 0) (number s)))

  -- *Labels*
  pub label_trade : (w : Work) (old new : Label) → label_at w.port new.number ≡ Some old → Trades (cost_of_label old) (cost_of_label new) w (with_label w new)
  label_trade w old new = live_or_halted (λ w. label_at w.port new.number ≡ Some old → Trades (cost_of_label old) (cost_of_label new) w (with_label w new))
      (λ port done instances e. record { cost = omega arith; same = refl })
      (λ port done instances e. record { cost = (let h = put_session port.session old new e in omega (arith, h)); same = refl }) w

  pub freed_trade : (w : Work) (old : Label) (number : ℕ) → label_at w.port number ≡ Some old → Trades (cost_of_label old) 0 w (without_label w number)
  freed_trade w old number = live_or_halted (λ w. label_at w.port number ≡ Some old → Trades (cost_of_label old) 0 w (without_label w number))
      (λ port done instances e. record { cost = omega arith; same = refl })
      (λ port done instances e. record { cost = (let h = without_session port.session old number e in omega (arith, h)); same = refl }) w

  pub new_label_cost : (w : Work) (label : Label) → Costs (cost_of_label label) w (with_new_label w label)
  new_label_cost w label = live_or_halted (λ w. Costs (cost_of_label label) w (with_new_label w label))
      (λ port done instances. record { cost = omega arith; stays = λ k. omega arith })
      (λ port done instances. record { cost = (let h = enter_session port.session label in omega (arith, h)); stays = λ k. omega arith }) w

  -- *Grants*
  pub grants_cost : (w : Work) (grants : List Grant) (count : ℕ) → total_weight cost_of_grant grants ≤ total_weight cost_of_grant w.port.grants + count → Costs count w (with_grants w grants)
  grants_cost w grants count = live_or_halted (λ w. total_weight cost_of_grant grants ≤ total_weight cost_of_grant w.port.grants + count → Costs count w (with_grants w grants))
      (λ port done instances le. record { cost = omega arith; stays = λ k. omega arith })
      (λ port done instances le. record { cost = omega (arith, le); stays = λ k. omega arith }) w

  pub grant_trade : (w : Work) (old new : Grant) → at grant_label new.label w.port.grants ≡ Some old → Trades (cost_of_grant old) (cost_of_grant new) w (with_grant w new)
  grant_trade w old new = live_or_halted (λ w. at grant_label new.label w.port.grants ≡ Some old → Trades (cost_of_grant old) (cost_of_grant new) w (with_grant w new))
      (λ port done instances e. record { cost = omega arith; same = refl })
      (λ port done instances e. record { cost = (let h = total_put cost_of_grant grant_label new port.grants old e in omega (arith, h)); same = refl }) w

  pub ended_trade : (w : Work) (old : Grant) (label : ℕ) → at grant_label label w.port.grants ≡ Some old → Trades (cost_of_grant old) 0 w (without_grant w label)
  ended_trade w old label = live_or_halted (λ w. at grant_label label w.port.grants ≡ Some old → Trades (cost_of_grant old) 0 w (without_grant w label))
      (λ port done instances e. record { cost = omega arith; same = refl })
      (λ port done instances e. record { cost = (let h = total_without cost_of_grant grant_label label port.grants old e in omega (arith, h)); same = refl }) w

  -- one that costs nothing, be there such a grant or not
  pub free_grant : (w : Work) (new : Grant) → cost_of_grant new ≡ 0 → Costs 0 w (with_grant w new)
  free_grant w new free = grants_cost w (put grant_label new w.port.grants) 0 (omega (arith, total_put_free cost_of_grant grant_label new free w.port.grants))

  pub gone_cost : (w : Work) (label : ℕ) → Costs 0 w (without_grant w label)
  gone_cost w label = grants_cost w (without grant_label label w.port.grants) 0 (omega (arith, total_left cost_of_grant grant_label label w.port.grants))

  -- *What is said* under a number
  next_spent : (n : ℕ) → nat_lt n last_number ≡ true → (if nat_lt last_number (n + 1) then reset_weight else 0) ≡ 0
  next_spent n t = by (nat_lt last_number (n + 1)) refl
    where
      by : (b : Bool) → nat_lt last_number (n + 1) ≡ b → (if b then reset_weight else 0) ≡ 0
      by true e = absurd (contrary n t e)
        where
          contrary : (n : ℕ) → nat_lt n last_number ≡ true → nat_lt last_number (n + 1) ≡ true → ⊥
          contrary n t e = grind (arith, nat_tests)
      by false e = refl

  spent_some : (b : Bool) → (if b then reset_weight else 0) ≤ reset_weight
  spent_some true = omega arith
  spent_some false = omega arith

  numbered_next : (w : Work) (n : ℕ) → nat_lt n last_number ≡ true → Costs 0 w (with_number (n + 1) w)
  numbered_next w n t = session_cost w (λ session. record session { number = n + 1 }) 0 (λ s. omega (arith, next_spent n t))

  numbered_last : (w : Work) → Costs reset_weight w (with_number spent_number w)
  numbered_last w = session_cost w (λ session. record session { number = spent_number }) reset_weight (λ s. omega (arith, spent_some (nat_lt last_number spent_number)))

  module _ (message : Unnumbered) (cost : ℕ) (costs : (own peer : _) (number : ℕ) → message_cost (message own peer number) ≤ cost) where
    pub tells_cost : (w : Work) → Costs (frame_weight + (cost + reset_weight)) w (tells w message)
    tells_cost w = told w.port.session
      where
        told : (o : Option Session) → Costs (frame_weight + (cost + reset_weight)) w (tells_in w message o)
        told None = costs_none (frame_weight + (cost + reset_weight)) w
        told (Some s) =
            let next : Work = with_number (s.number + 1) w in
            let said : Action = Say (message (own_instance w.port.adjacency) (peer_instance w.port.adjacency) s.number) in
            on_each (Costs (frame_weight + (cost + reset_weight)) w) (nat_lt s.number last_number) (with_action next said) (with_number spent_number w)
            (λ t. at_most (action_cost said) (frame_weight + (cost + reset_weight)) w (with_action next said) (omega (arith, costs (own_instance w.port.adjacency) (peer_instance w.port.adjacency) s.number))
            (after_none (action_cost said) w next (with_action next said) (numbered_next w s.number t) (acts_cost next said)))
            (λ t. at_most reset_weight (frame_weight + (cost + reset_weight)) w (with_number spent_number w) (omega arith) (numbered_last w))

    pub says_cost : (w : Work) → Costs (frame_weight + (cost + spending_weight)) w (says w message)
    says_cost w =
        let told : Work = tells w message in
        at_most ((frame_weight + (cost + reset_weight)) + reset_weight) (frame_weight + (cost + spending_weight)) w (says w message) (omega arith)
        (one_after (frame_weight + (cost + reset_weight)) reset_weight w told (says w message) (tells_cost w) (closes_some told))
      where
        closes_some : (w : Work) → Costs reset_weight w (halts_if_spent w)
        closes_some w = on_both (Costs reset_weight w) (is_spent w.port.session) (halts w) w (halts_cost w) (costs_none reset_weight w)
