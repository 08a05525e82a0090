-- The joins of all ports: what a change of one port makes of them.

use Rattle.std.proofs.Common.{◌≡◌, List, [], ◌∷◌, ◌++◌, map, Some, refl, sym, ap, ◌∙◌, append_assoc}
use Rattle.std.specs.Prelude.{flat_map}
use Rattle.std.proofs.lemmas.Grind.{flat_map-append}
use Rattle.std.proofs.lemmas.List.{map-append}
use Rattle.keyed_lists.specs.Keyed.{at, put, in_order}
use Rattle.controller_joins.specs.world_model.Controller.{Controller, Linked, port_key}
use Rattle.controller_joins.specs.world_model.Joins.{Join, end_le, joins_at}
use Rattle.controller_joins.specs.Joined.{joined_of}
use Rattle.controller_joins.specs.declared.places.Joined.{Joined}
use Rattle.law_join_facts.specs.Joins.{joined_at, joined_in}
use Rattle.law_join_facts.proofs.Ordered.{map_in_order}
use Rattle.law_join_facts.proofs.Comes.{OneMore, le}
use Rattle.law_join_facts.proofs.Splits.{split}

map_flat : {A B C : Type 0} (f : B → C) (g : A → List B) (xs : List A) → map f (flat_map g xs) ≡ flat_map (λ x. map f (g x)) xs
map_flat f g [] = refl
map_flat f g (x ∷ xs) = map-append f (g x) (flat_map g xs) ∙ ap (λ ys. map f (g x) ++ ys) (map_flat f g xs)

abbrev pub all_joined : List Linked → List Joined
all_joined ports = flat_map joined_at ports

pub joined_is : (c : Controller) → joined_in c ≡ in_order le (all_joined c.ports)
joined_is c = map_in_order joined_of (λ (a b : Join). end_le a.input b.input) le (λ x y. refl) (flat_map joins_at c.ports) ∙ ap (in_order le) (map_flat joined_of joins_at c.ports)

around : (front back : List Linked) (linked : Linked) → all_joined (front ++ linked ∷ back) ≡ all_joined front ++ (joined_at linked ++ all_joined back)
around front back linked = flat_map-append joined_at front (linked ∷ back)

pub put_kept : (after : Linked) (ports : List Linked) (linked : Linked) → at port_key (port_key after) ports ≡ Some linked → joined_at after ≡ joined_at linked → all_joined (put port_key after ports) ≡ all_joined ports
put_kept after ports linked found same =
    let s = split port_key (port_key after) ports linked found in
    ap all_joined (s.placed after refl) ∙ around s.front s.back after ∙ ap (λ js. all_joined s.front ++ (js ++ all_joined s.back)) same ∙ sym (around s.front s.back linked) ∙ ap all_joined (sym s.whole)

more_around : (front xs ys back : List Joined) (join : Joined) → OneMore xs ys join → OneMore (front ++ (xs ++ back)) (front ++ (ys ++ back)) join
more_around front xs ys back join m = record {
  front = front ++ m.front;
  back = m.back ++ back;
  fewer_is = ap (λ zs. front ++ (zs ++ back)) m.fewer_is ∙ ap (λ zs. front ++ zs) (append_assoc m.front m.back back) ∙ sym (append_assoc front m.front (m.back ++ back));
  more_is = ap (λ zs. front ++ (zs ++ back)) m.more_is ∙ ap (λ zs. front ++ zs) (append_assoc m.front (join ∷ m.back) back) ∙ sym (append_assoc front m.front (join ∷ (m.back ++ back)));
}

pub put_more : (after : Linked) (ports : List Linked) (linked : Linked) (join : Joined) → at port_key (port_key after) ports ≡ Some linked → OneMore (joined_at linked) (joined_at after) join → OneMore (all_joined ports) (all_joined (put port_key after ports)) join
put_more after ports linked join found m =
    let s = split port_key (port_key after) ports linked found in
    let wide = more_around (all_joined s.front) (joined_at linked) (joined_at after) (all_joined s.back) join m in
    record {
      front = wide.front;
      back = wide.back;
      fewer_is = ap all_joined s.whole ∙ around s.front s.back linked ∙ wide.fewer_is;
      more_is = ap all_joined (s.placed after refl) ∙ around s.front s.back after ∙ wide.more_is;
    }

pub put_fewer : (after : Linked) (ports : List Linked) (linked : Linked) (join : Joined) → at port_key (port_key after) ports ≡ Some linked → OneMore (joined_at after) (joined_at linked) join → OneMore (all_joined (put port_key after ports)) (all_joined ports) join
put_fewer after ports linked join found m =
    let s = split port_key (port_key after) ports linked found in
    let wide = more_around (all_joined s.front) (joined_at after) (joined_at linked) (all_joined s.back) join m in
    record {
      front = wide.front;
      back = wide.back;
      fewer_is = ap all_joined (s.placed after refl) ∙ around s.front s.back after ∙ wide.fewer_is;
      more_is = ap all_joined s.whole ∙ around s.front s.back linked ∙ wide.more_is;
    }
