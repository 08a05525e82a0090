-- all joins are tried, one input after another: one that waits is joined in its turn, and joins are kept

use Rattle.std.proofs.Common.{◌≡◌, ◌⊎◌, inl, inr, ℕ, suc, ◌+◌, ◌≤◌, ◌<◌, Bool, true, not, List, [], ◌∷◌, ◌++◌, length, fold, Option, refl, sym, ◌∙◌, ap, subst, arith}
use Rattle.std.specs.Prelude.{◌&&◌, nat_lt, is_none}
use Rattle.std.proofs.lemmas.Bool.Decides.{nat_tests}
use Rattle.std.proofs.lemmas.List.Sums.{fold-append}
use Rattle.world_model.specs.Words.{End, is_estab, last_transaction, most_asked, on_input, flow_destination, home_of, label_end, MoveBranch, Desk, Label, grant_label, is_offered, Controller, port_key, may_join, route_stays, tries_join}
use Rattle.world_model.specs.Controller.{Acted}
use Rattle.world_model.specs.Joins.{Join}
use Rattle.law_port_facts.specs.ordered_lists.Ordered.{Every}
use Rattle.law_port_facts.proofs.Keyed.{by_eq}
use Rattle.law_live_ports.proofs.Keeping.{HasApart}
use Rattle.law_live_ports.proofs.Joining.{Tried, tried}
use Rattle.law_live_joining.specs.Joins.{KeepsJoins}
use Rattle.law_live_joining.specs.Ticks.{IsJoinedBehind}
use Rattle.law_live_joining.proofs.Keeping.{keeps_same, keeps_then}
use Rattle.law_live_joining.proofs.Found.{Found, found}
use Rattle.law_live_joining.proofs.Turns.{Entered, Turned, passed, joins_one, turned}
use Rattle.law_live_joining.proofs.Asked.{asked_length}
use Rattle.law_live_joining.proofs.Waiting.{Waits, is_own, waits_then}
use Rattle.law_live_joining.proofs.Joined.{waiting_joined, stays_joined}

-- *Turns may go on*: so many more
pub record HasTurns (a : Acted) (turns : ℕ) : Type 0 where
  pub apart : Every HasApart a.controller.ports
  pub up : is_estab a.controller.adjacency.state ≡ true
  pub numbers : a.controller.desk.next + turns ≤ last_transaction

some_left : (n k last : ℕ) → n + suc k ≤ last → n < last
some_left n k last few = omega (arith, few)

later_left : (m n k last : ℕ) → m ≤ n + 1 → n + suc k ≤ last → m + k ≤ last
later_left m n k last one few = omega (arith, one, few)

module _ (a : Acted) (input : End) (k : ℕ) (has : HasTurns a (suc k)) where
  pub low : a.controller.desk.next < last_transaction
  low = some_left a.controller.desk.next k last_transaction has.numbers

  turns_later : Tried a.controller (tries_join a input).controller → HasTurns (tries_join a input) k
  turns_later t = record {
    apart = t.keeps.apart has.apart;
    up = ap (λ side. is_estab side.state) t.keeps.adjacency ∙ has.up;
    numbers = later_left (tries_join a input).controller.desk.next a.controller.desk.next k last_transaction t.next has.numbers;
  }

  pub turns_then : HasTurns (tries_join a input) k
  turns_then = turns_later (tried a input has.apart has.up low)

  pub its_turn : Turned a input (tries_join a input)
  its_turn = turned a input has.apart (record { up = has.up; number_left = low })

-- *Joins are kept*
turn_keeps : (a b : Acted) (input : End) → Turned a input b → KeepsJoins a.controller b.controller
turn_keeps a b input (passed never) = keeps_same a.controller a.controller refl
turn_keeps a b input (joins_one b2 e) = e.entered.keeps

pub tries_keep : (inputs : List End) (a : Acted) → HasTurns a (length inputs) → KeepsJoins a.controller (fold tries_join a inputs).controller
tries_keep [] a has = keeps_same a.controller a.controller refl
tries_keep (input ∷ inputs) a has =
    let b : Acted = tries_join a input in
    keeps_then a.controller b.controller (fold tries_join b inputs).controller (turn_keeps a b input (its_turn a input (length inputs) has))
    (tries_keep inputs b (turns_then a input (length inputs) has))

-- *A label that is joined* stays so
module _ (label : Label) (join : Join) where
  turn_stays : (a b : Acted) (input : End) → Turned a input b → IsJoinedBehind a.controller label join → IsJoinedBehind b.controller label join
  turn_stays a b input (passed never) h = h
  turn_stays a b input (joins_one b2 e) h = stays_joined a b2 input e label join h

  pub all_stay : (inputs : List End) (a : Acted) → HasTurns a (length inputs) → IsJoinedBehind a.controller label join → IsJoinedBehind (fold tries_join a inputs).controller label join
  all_stay [] a has h = h
  all_stay (input ∷ inputs) a has h = all_stay inputs (tries_join a input) (turns_then a input (length inputs) has)
      (turn_stays a (tries_join a input) input (its_turn a input (length inputs) has) h)

  -- *One that waits* waits on, or is joined
  abbrev State : Acted → List End → Type 0
  State a inputs = Waits a.controller label join inputs ⊎ IsJoinedBehind a.controller label join

  comes_from : (a : Acted) (inputs : List End) → Every HasApart a.controller.ports → Waits a.controller label join inputs → Found a.controller join.input label.flow join
  comes_from a inputs apart w = found a.controller apart join.input label.flow join w.leads_on

  entered_goes : (a b : Acted) (other : End) (inputs : List End) → Every HasApart a.controller.ports → Entered a b other → Waits a.controller label join (other ∷ inputs) → State b inputs
  entered_goes a b other inputs apart e w =
      let mine : Found a.controller join.input label.flow join = comes_from a (other ∷ inputs) apart w in
      by_eq (port_key e.comes.g) join.port.0
      (λ ports t. by_eq (grant_label e.comes.grant) (grant_label join.grant)
      (λ labels u. inr (waiting_joined a b other e label join (other ∷ inputs) w (is_own a b label join other inputs w e mine (ports, labels))))
      (λ differ u. inl (waits_then a b label join other inputs w e mine (λ same. differ same.1))))
      (λ differ t. inl (waits_then a b label join other inputs w e mine (λ same. differ same.0)))

  goes : (a b : Acted) (other : End) (inputs : List End) → Every HasApart a.controller.ports → Turned a other b → State a (other ∷ inputs) → State b inputs
  goes a b other inputs apart (passed never) (inl w) = inl (record { there = w.there; offered = w.offered; unjoined = w.unjoined; off = w.off; stays = w.stays; leads_on = w.leads_on; alone = w.alone.1 })
  goes a b other inputs apart (passed never) (inr h) = inr h
  goes a b other inputs apart (joins_one b2 e) (inl w) = entered_goes a b2 other inputs apart e w
  goes a b other inputs apart (joins_one b2 e) (inr h) = inr (stays_joined a b2 other e label join h)

  -- there is room for each
  turn_room : (a b : Acted) (input : End) → Turned a input b → length b.controller.desk.standing ≤ length a.controller.desk.standing + 1
  turn_room a b input (passed never) = more (length a.controller.desk.standing)
    where
      more : (n : ℕ) → n ≤ n + 1
      more n = omega arith
  turn_room a b input (joins_one b2 e) = subst (λ (desk : Desk). length desk.standing ≤ length a.controller.desk.standing + 1) (sym e.entered.desk)
      (asked_length a.controller.desk (MoveBranch input (home_of input) (label_end e.comes.g.setup.port e.comes.grant.label)))

  -- *Up to its turn*
  pub record Goes (a : Acted) (inputs : List End) : Type 0 where
    pub has : HasTurns a (length inputs)
    pub room : length a.controller.desk.standing + length inputs ≤ most_asked
    pub state : State a inputs

  pub up_to : (front rest : List End) (a : Acted) → Goes a (front ++ rest) → Goes (fold tries_join a front) rest
  up_to [] rest a g = g
  up_to (other ∷ front) rest a g =
      let b : Acted = tries_join a other in
      let t : Turned a other b = its_turn a other (length (front ++ rest)) g.has in
      up_to front rest b (record {
        has = turns_then a other (length (front ++ rest)) g.has;
        room = later_left (length b.controller.desk.standing) (length a.controller.desk.standing) (length (front ++ rest)) most_asked (turn_room a b other t) g.room;
        state = goes a b other (front ++ rest) g.has.apart t g.state;
      })

  -- *In its turn* it is joined
  may_now : (c : Controller) (inputs : List End) → Waits c label join inputs → length c.desk.standing < most_asked → may_join c join.input label ≡ true
  may_now c inputs w few = both (is_offered label.state && is_none label.join) (not (on_input c.desk join.input) && (nat_lt (length c.desk.standing) most_asked && route_stays c (flow_destination label.flow)))
      (both (is_offered label.state) (is_none label.join) w.offered (ap (λ (o : Option End). is_none o) w.unjoined))
      (both (not (on_input c.desk join.input)) (nat_lt (length c.desk.standing) most_asked && route_stays c (flow_destination label.flow)) (ap not w.off)
      (both (nat_lt (length c.desk.standing) most_asked) (route_stays c (flow_destination label.flow)) (less (length c.desk.standing) most_asked few) w.stays))
    where
      both : (x y : Bool) → x ≡ true → y ≡ true → (x && y) ≡ true
      both x y p q = (λ i. p i && q i)

      less : (m n : ℕ) → m < n → nat_lt m n ≡ true
      less m n h = grind (arith, nat_tests)

  own_turn : (a b : Acted) (rest : List End) → length a.controller.desk.standing < most_asked → Turned a join.input b → State a (join.input ∷ rest) → IsJoinedBehind b.controller label join
  own_turn a b rest few (passed never) (inl w) = absurd (never label join w.there (may_now a.controller (join.input ∷ rest) w few) w.leads_on)
  own_turn a b rest few (passed never) (inr h) = h
  own_turn a b rest few (joins_one b2 e) (inl w) = waiting_joined a b2 join.input e label join (join.input ∷ rest) w refl
  own_turn a b rest few (joins_one b2 e) (inr h) = stays_joined a b2 join.input e label join h

  pub in_turn : (front rest : List End) (a : Acted) → Goes a (front ++ join.input ∷ rest) → IsJoinedBehind (fold tries_join a (front ++ join.input ∷ rest)).controller label join
  in_turn front rest a g =
      let b : Acted = fold tries_join a front in
      let at : Goes b (join.input ∷ rest) = up_to front (join.input ∷ rest) a g in
      subst (λ (x : Acted). IsJoinedBehind x.controller label join) (sym (fold-append tries_join a front (join.input ∷ rest)))
      (all_stay rest (tries_join b join.input) (turns_then b join.input (length rest) at.has)
      (own_turn b (tries_join b join.input) rest (some_left (length b.controller.desk.standing) (length rest) most_asked at.room) (its_turn b join.input (length rest) at.has) at.state))
