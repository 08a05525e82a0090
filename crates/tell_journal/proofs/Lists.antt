-- Lines without their ends, and arrays value by value

use Rattle.std.proofs.Common.{◌≡◌, ℕ, zero, suc, ◌+◌, ◌-◌, ◌<◌, List, [], ◌∷◌, ◌++◌, append_assoc, length, length-append, take, map, slice_get, Some, Result, Ok, Err, OnOk, codes, refl, sym, ap, ◌∙◌, arith}
use Rattle.lab_text.specs.Text.{line_of}
use Rattle.world_model.specs.Topology.{Topology, Node, node_at, node_in}
use Rattle.tell_journal.specs.Json.{array, comma, parted, string}
use Rattle.tell_journal.specs.Journal.{spaced}

-- *A line* is its words and its end
pub line_ended : (words : List (List ℕ)) → line_of words ≡ spaced words ++ codes "\n"
line_ended [] = refl
line_ended (word ∷ []) = refl
line_ended (word ∷ next ∷ words) =
    ap (λ (xs : List ℕ). word ++ (codes " " ++ xs)) (line_ended (next ∷ words))
    ∙ ap (λ (xs : List ℕ). word ++ xs) (sym (append_assoc (codes " ") (spaced (next ∷ words)) (codes "\n")))
    ∙ sym (append_assoc word (codes " " ++ spaced (next ∷ words)) (codes "\n"))

-- what stands in front of the last octet
front_of : (xs : List ℕ) (x : ℕ) → take (length xs) (xs ++ x ∷ []) ≡ xs
front_of [] x = refl
front_of (y ∷ xs) x = ap (λ (ys : List ℕ). y ∷ ys) (front_of xs x)

front : (xs : List ℕ) (x : ℕ) → take (length (xs ++ x ∷ []) - 1) (xs ++ x ∷ []) ≡ xs
front xs x =
    let size : length (xs ++ x ∷ []) ≡ length xs + 1 = length-append xs (x ∷ []) in
    let less : length (xs ++ x ∷ []) - 1 ≡ length xs = omega (arith, size) in
    ap (λ (n : ℕ). take n (xs ++ x ∷ [])) less ∙ front_of xs x

pub line_front : (line : List ℕ) (words : List (List ℕ)) → line ≡ line_of words → take (length line - 1) line ≡ spaced words
line_front line words is = ap (λ (xs : List ℕ). take (length xs - 1) xs) (is ∙ line_ended words) ∙ front (spaced words) 10

-- *An array* with one value more
parted_more : (values : List (List ℕ)) (value : List ℕ) → parted (values ++ value ∷ []) ≡ parted values ++ (comma (length values) ++ value)
parted_more [] value = refl
parted_more (first ∷ []) value = refl
parted_more (first ∷ next ∷ values) value =
    ap (λ (xs : List ℕ). first ++ (codes "," ++ xs)) (parted_more (next ∷ values) value)
    ∙ ap (λ (xs : List ℕ). first ++ xs) (sym (append_assoc (codes ",") (parted (next ∷ values)) (codes "," ++ value)))
    ∙ sym (append_assoc first (codes "," ++ parted (next ∷ values)) (codes "," ++ value))

-- the values as far as one, and that one
map_more : {A : Type 0} (f : A → List ℕ) (items : List A) (place : ℕ) (item : A) → slice_get items place ≡ Some item
    → map f (take (suc place) items) ≡ map f (take place items) ++ f item ∷ []
map_more f [] place item is = absurd (cc is)
map_more f (first ∷ items) zero item is = (let same : first ≡ item = cc is in ap (λ (x : _). f x ∷ []) same)
map_more f (first ∷ items) (suc place) item is = ap (λ (xs : List (List ℕ)). f first ∷ xs) (map_more f items place item is)

length_so_far : {A : Type 0} (f : A → List ℕ) (items : List A) (place : ℕ) (item : A) → slice_get items place ≡ Some item
    → length (map f (take place items)) ≡ place
length_so_far f [] place item is = absurd (cc is)
length_so_far f (first ∷ items) zero item is = refl
length_so_far f (first ∷ items) (suc place) item is = (let rest : length (map f (take place items)) ≡ place = length_so_far f items place item is in omega (arith, rest))

array_more : {A : Type 0} (f : A → List ℕ) (items : List A) (place : ℕ) (item : A) → slice_get items place ≡ Some item
    → parted (map f (take (suc place) items)) ≡ parted (map f (take place items)) ++ (comma place ++ f item)
array_more f items place item is =
    ap parted (map_more f items place item is)
    ∙ parted_more (map f (take place items)) (f item)
    ∙ ap (λ (n : ℕ). parted (map f (take place items)) ++ (comma n ++ f item)) (length_so_far f items place item is)

-- *In a text*: the values so far, and one more; and all of them
pub value_put : {A : Type 0} (f : A → List ℕ) (items : List A) (place : ℕ) (item : A) (old before behind new : List ℕ) → slice_get items place ≡ Some item
    → before ≡ old ++ (codes "[" ++ parted (map f (take place items))) → behind ≡ before ++ comma place → new ≡ behind ++ f item
    → new ≡ old ++ (codes "[" ++ parted (map f (take (place + 1) items)))
value_put f items place item old before behind new is were parts puts =
    let so_far : List ℕ = parted (map f (take place items)) in
    let up : suc place ≡ place + 1 = omega arith in
    puts ∙ ap (λ (xs : List ℕ). xs ++ f item) (parts ∙ ap (λ (xs : List ℕ). xs ++ comma place) were)
    ∙ append_assoc (old ++ (codes "[" ++ so_far)) (comma place) (f item)
    ∙ append_assoc old (codes "[" ++ so_far) (comma place ++ f item)
    ∙ ap (λ (xs : List ℕ). old ++ (codes "[" ++ xs)) (sym (array_more f items place item is) ∙ ap (λ (n : ℕ). parted (map f (take n items))) up)

take_whole : {A : Type 0} (items : List A) (place : ℕ) → place ≡ length items → take place items ≡ items
take_whole [] zero e = refl
take_whole [] (suc place) e = absurd (omega (arith, e))
take_whole (item ∷ items) zero e = absurd (omega (arith, e))
take_whole (item ∷ items) (suc place) e = ap (λ (xs : List _). item ∷ xs) (take_whole items place (omega (arith, e)))

pub values_put : {A : Type 0} (f : A → List ℕ) (items : List A) (place : ℕ) (old before new : List ℕ) → place ≡ length items
    → before ≡ old ++ (codes "[" ++ parted (map f (take place items))) → new ≡ before ++ codes "]" → new ≡ old ++ array (map f items)
values_put f items place old before new all were ends =
    ends ∙ ap (λ (xs : List ℕ). xs ++ codes "]") (were ∙ ap (λ (xs : List _). old ++ (codes "[" ++ parted (map f xs))) (take_whole items place all))
    ∙ append_assoc old (codes "[" ++ parted (map f items)) (codes "]")

-- a string, piece by piece
pub string_put : (old one two new text said : List ℕ) → one ≡ old ++ codes "\"" → two ≡ one ++ text → new ≡ two ++ codes "\"" → text ≡ said → new ≡ old ++ string said
string_put old one two new text said opens puts closes is =
    closes ∙ ap (λ (xs : List ℕ). xs ++ codes "\"") (puts ∙ ap (λ (xs : List ℕ). xs ++ text) opens)
    ∙ append_assoc (old ++ codes "\"") text (codes "\"")
    ∙ append_assoc old (codes "\"") (text ++ codes "\"")
    ∙ ap (λ (xs : List ℕ). old ++ string xs) is

-- an item that is there
pub record Item {A : Type 0} (items : List A) (place : ℕ) : Type 0 where
  pub item : A
  pub is : slice_get items place ≡ Some item

pub item_at : {A : Type 0} (items : List A) (place : ℕ) → place < length items → Item items place
item_at [] place low = absurd (omega (arith, low))
item_at (item ∷ items) zero low = record { item = item; is = refl }
item_at (item ∷ items) (suc place) low = (let rest : Item items place = item_at items place (omega (arith, low)) in record { item = rest.item; is = rest.is })

-- what follows from a fact of an outcome that is Ok
pub on_ok : {T E : Type 0} (outcome : Result T E) (A B : Type 0) → (A → B) → OnOk outcome A → OnOk outcome B
on_ok (Ok value) A B follows holds = follows holds
on_ok (Err error) A B follows holds = holds

-- the node of a place
pub node_is : (t : Topology) (place : ℕ) (node : Node) → slice_get t.nodes place ≡ Some node → node_at t (record { 0 = place + 1 }) ≡ Some node
node_is t place node is = (let up : place + 1 ≡ suc place = omega arith in ap (node_in t.nodes) up ∙ is)
