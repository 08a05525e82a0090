-- joins are tried, one after another

use Rattle.std.proofs.Common.{◌≡◌, ℕ, suc, ◌+◌, ◌≤◌, ◌<◌, Bool, true, false, not, List, [], ◌∷◌, ◌++◌, append_assoc, length, fold, filter, refl, sym, ◌∙◌, ap, subst, arith, if◌then◌else◌}
use Rattle.std.specs.Prelude.{◌||◌}
use Rattle.std.specs.List.{list_any}
use Rattle.std.proofs.lemmas.List.Sums.{fold-append}
use Rattle.world_model.specs.Words.{PortNo, End, is_estab, is_delete_all, all_on, withdraws, last_transaction, Request, Desk, Standing, tries_join}
use Rattle.world_model.specs.Controller.{Acted}
use Rattle.world_model.specs.port_model.Desk.{asked}
use Rattle.law_port_facts.specs.ordered_lists.Ordered.{Every}
use Rattle.law_port_facts.proofs.ordered_lists.Every.{every_join}
use Rattle.law_live_mirrors.specs.Mirrors.{is_labels, Mirrors}
use Rattle.law_live_mirrors.specs.Asking.{AsksMirrored}
use Rattle.law_live_mirrors.proofs.Nodes.{turn_none}
use Rattle.law_live_mirrors.proofs.Ports.{alike_itself}
use Rattle.law_live_mirrors.proofs.Joining.{EmptiesNone, Tried, tried}
use Rattle.law_live_ports.proofs.Keeping.{HasApart}
use Rattle.law_live_ports.proofs.Joining.{Tried as Left, tried as leaves}

-- *What is asked first*, and then
pub asks_then : (a b c : Acted) (first next : List Request) → AsksMirrored a b first → AsksMirrored b c next → AsksMirrored a c (first ++ next)
asks_then a b c first next p q = record {
  desk = q.desk ∙ (ap (λ (desk : Desk). fold asked desk next) p.desk ∙ sym (fold-append asked a.controller.desk first next));
  mirrors = λ branches way input h. subst (λ (on_way : List Request). Mirrors c.controller.ports c.controller.desk branches on_way input) (append_assoc way first next)
      (q.mirrors branches (way ++ first) input (p.mirrors branches way input h));
}

tried_then : (a b c : Acted) → Tried a b → Tried b c → Tried a c
tried_then a b c p q = record {
  requests = p.requests ++ q.requests;
  asks = asks_then a b c p.requests q.requests p.asks q.asks;
  moves = every_join EmptiesNone p.requests q.requests p.moves q.moves;
}

-- *No Delete All stands* behind what empties no port
abbrev NoneStands : Desk → Type 0
NoneStands desk = (port : PortNo) → all_on desk port ≡ false

any_kept : (test kept : Standing → Bool) (y : Standing) (xs : List Standing) → test y ≡ false → list_any test xs ≡ false → list_any test (filter kept xs ++ y ∷ []) ≡ false
any_kept test kept y [] new h = ap (λ (b : Bool). b || false) new
any_kept test kept y (x ∷ xs) new h = elim (kept x) as (λ t. list_any test ((if t then x ∷ filter kept xs else filter kept xs) ++ y ∷ []) ≡ false) [
  | true ↦ both (test x) (first (test x) (list_any test xs) h) (any_kept test kept y xs new (rest (test x) (list_any test xs) h))
  | false ↦ any_kept test kept y xs new (rest (test x) (list_any test xs) h)
]
  where
    first : (a b : Bool) → (a || b) ≡ false → a ≡ false
    first true b e = absurd (cc e)
    first false b e = refl

    rest : (a b : Bool) → (a || b) ≡ false → b ≡ false
    rest true b e = absurd (cc e)
    rest false b e = e

    both : (a : Bool) {b : Bool} → a ≡ false → b ≡ false → (a || b) ≡ false
    both true p q = absurd (cc p)
    both false p q = q

none_later : (requests : List Request) (desk : Desk) → Every EmptiesNone requests → NoneStands desk → NoneStands (fold asked desk requests)
none_later [] desk moves none = none
none_later (request ∷ requests) desk moves none = none_later requests (asked desk request) moves.1
    (λ port. any_kept (λ (s : Standing). is_delete_all port s.request) (λ (s : Standing). not (withdraws request s.request)) (record { number = desk.next; request = request }) desk.standing (moves.0 port) (none port))

-- *Each may be tried*
pub record MayTryEach (a : Acted) (inputs : List End) : Type 0 where
  pub up : is_estab a.controller.adjacency.state ≡ true
  pub numbers : a.controller.desk.next + length inputs ≤ last_transaction
  pub labels : Every (λ (input : End). is_labels input ≡ true) inputs
  pub none : (port : PortNo) → all_on a.controller.desk port ≡ false
  pub grants : Every HasApart a.controller.ports

some_left : (n k last : ℕ) → n + suc k ≤ last → n < last
some_left n k last few = omega (arith, few)

later_left : (m n k last : ℕ) → m ≤ n + 1 → n + suc k ≤ last → m + k ≤ last
later_left m n k last one few = omega (arith, one, few)

pub all_tried : (inputs : List End) (a : Acted) → MayTryEach a inputs → Tried a (fold tries_join a inputs)
all_tried [] a may = record { requests = []; asks = turn_none a a a.controller.ports refl refl (λ e. alike_itself a.controller.ports e); moves = tt }
all_tried (input ∷ inputs) a may =
    let low : a.controller.desk.next < last_transaction = some_left a.controller.desk.next (length inputs) last_transaction may.numbers in
    let b : Acted = tries_join a input in
    let t : Tried a b = tried a input (record { can = record { up = may.up; number_left = low }; labels = may.labels.0; apart = may.none input.port; grants = may.grants }) in
    let left : Left a.controller b.controller = leaves a input may.grants may.up low in
    tried_then a b (fold tries_join b inputs) t (all_tried inputs b (record {
      up = ap (λ side. is_estab side.state) left.keeps.adjacency ∙ may.up;
      numbers = later_left b.controller.desk.next a.controller.desk.next (length inputs) last_transaction left.next may.numbers;
      labels = may.labels.1;
      none = subst NoneStands (sym t.asks.desk) (none_later t.requests a.controller.desk t.moves may.none);
      grants = left.keeps.apart may.grants;
    }))
