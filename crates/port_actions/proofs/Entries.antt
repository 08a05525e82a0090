-- A map by inputs after an insertion.

use Rattle.std.proofs.Common.{◌≡◌, Bool, true, false, cond, ◌||◌, ◌==◌, List, [], ◌∷◌, refl, sym, ap, ◌∙◌, Option, Some, None, is_some}
use Rattle.std.specs.Map.{keys_of, lookup}
use Rattle.std.specs.Option.{option_map_or}
use Rattle.indexmap.specs.IndexMap.{insert_entry}
use Rattle.net_types.specs.declared.node.PortNo.{PortNo}
use Rattle.net_types.specs.declared.channel.End.{End}
use Rattle.std.proofs.lemmas.Bool.{eqb-true}
use Rattle.crossbar_model.specs.Crossbar.{same_end}
use Rattle.port_model.specs.Desk.{Desk, on_input}
use Rattle.branch_desk.proofs.Ends.{end_from_same, same_itself}
use Rattle.port_actions.specs.Outlook.{Outlook, stands}

pub looked_up : (eq : End → End → Bool) → ((a b : End) → eq a b ≡ same_end a b) → (entries : List (End × Bool)) (key : End) (value : Bool) (end : End) → lookup (same_end end) (insert_entry eq entries key value) ≡ cond (same_end end key) (Some value) (lookup (same_end end) entries)
looked_up eq is [] key value end = refl
looked_up eq is (e ∷ entries) key value end = rw (is key e.0) (by (same_end key e.0) refl (looked_up eq is entries key value end)) where
  apart : same_end key e.0 ≡ false → (a b : Bool) → same_end end e.0 ≡ a → same_end end key ≡ b → cond a (Some e.1) (cond b (Some value) (lookup (same_end end) entries)) ≡ cond b (Some value) (cond a (Some e.1) (lookup (same_end end) entries))
  apart differ true true ea eb =
      let one : end ≡ e.0 = end_from_same end e.0 ea in
      let other : end ≡ key = end_from_same end key eb in
      let same : key ≡ e.0 = sym other ∙ one in
      let there : same_end key e.0 ≡ true = rw same (same_itself e.0) in
      absurd (cc (sym differ ∙ there))
  apart differ true false ea eb = refl
  apart differ false true ea eb = refl
  apart differ false false ea eb = refl

  twice : (b : Bool) → cond b (Some value) (lookup (same_end end) entries) ≡ cond b (Some value) (cond b (Some e.1) (lookup (same_end end) entries))
  twice true = refl
  twice false = refl

  by : (b : Bool) → same_end key e.0 ≡ b → lookup (same_end end) (insert_entry eq entries key value) ≡ cond (same_end end key) (Some value) (lookup (same_end end) entries) → lookup (same_end end) (cond b ((e.0, value) ∷ entries) (e ∷ insert_entry eq entries key value)) ≡ cond (same_end end key) (Some value) (cond (same_end end e.0) (Some e.1) (lookup (same_end end) entries))
  by true h rest = let same : key ≡ e.0 = end_from_same key e.0 h in rw same (twice (same_end end e.0))
  by false h rest = rw rest (apart h (same_end end e.0) (same_end end key) refl refl)

pub inserted_stands : (eq : End → End → Bool) → ((a b : End) → eq a b ≡ same_end a b) → (o next : Outlook) (desk : Desk) (key : End) (value : Bool) → next.inputs ≡ insert_entry eq o.inputs key value → (end : End) → stands next desk end ≡ cond (same_end end key) value (stands o desk end)
inserted_stands eq is o next desk key value inputs end =
    ap (λ (es : List (End × Bool)). option_map_or (λ (b : Bool). b) (lookup (same_end end) es) (on_input desk end)) inputs
    ∙ ap (λ (f : Option Bool). option_map_or (λ (b : Bool). b) f (on_input desk end)) (looked_up eq is o.inputs key value end)
    ∙ by (same_end end key)
  where
    by : (b : Bool) → option_map_or (λ (v : Bool). v) (cond b (Some value) (lookup (same_end end) o.inputs)) (on_input desk end) ≡ cond b value (stands o desk end)
    by true = refl
    by false = refl

-- a key that is there stays in its place
pub same_keys : (eq : End → End → Bool) → ((a b : End) → eq a b ≡ same_end a b) → (entries : List (End × Bool)) (key : End) (value : Bool) → is_some (lookup (same_end key) entries) ≡ true → keys_of (insert_entry eq entries key value) ≡ keys_of entries
same_keys eq is [] key value h = absurd (cc h)
same_keys eq is (e ∷ entries) key value h = rw (is key e.0) (by (same_end key e.0) h (λ g. same_keys eq is entries key value g)) where
  by : (b : Bool) → is_some (cond b (Some e.1) (lookup (same_end key) entries)) ≡ true → (is_some (lookup (same_end key) entries) ≡ true → keys_of (insert_entry eq entries key value) ≡ keys_of entries) → keys_of (cond b ((e.0, value) ∷ entries) (e ∷ insert_entry eq entries key value)) ≡ e.0 ∷ keys_of entries
  by true g rest = refl
  by false g rest = ap (λ ks. e.0 ∷ ks) (rest g)

-- a port is among those of which Delete All is asked
pub port_entered : (eq : PortNo → PortNo → Bool) → ((a b : PortNo) → eq a b ≡ (a.0 == b.0)) → (entries : List (PortNo × Bool)) (port other : PortNo) → is_some (lookup (λ (q : PortNo). other.0 == q.0) (insert_entry eq entries port true)) ≡ ((other.0 == port.0) || is_some (lookup (λ (q : PortNo). other.0 == q.0) entries))
port_entered eq is [] port other = by (other.0 == port.0) where
  by : (b : Bool) → is_some (cond b (Some true) None) ≡ (b || false)
  by true = refl
  by false = refl
port_entered eq is (e ∷ entries) port other = rw (is port e.0) (by (port.0 == e.0.0) refl (port_entered eq is entries port other)) where
  swap : (a b : Bool) (o : Option Bool) (r : Bool) → is_some o ≡ (b || r) → is_some (cond a (Some e.1) o) ≡ (b || is_some (cond a (Some e.1) (cond r (Some true) None)))
  swap true true o r h = refl
  swap true false o r h = refl
  swap false true o true h = h
  swap false true o false h = h
  swap false false o true h = h
  swap false false o false h = h

  some : (o : Option Bool) (a : Bool) → is_some (cond a (Some e.1) (cond (is_some o) (Some true) None)) ≡ is_some (cond a (Some e.1) o)
  some None true = refl
  some None false = refl
  some (Some v) true = refl
  some (Some v) false = refl

  same : (a : Bool) (o : Option Bool) → is_some (cond a (Some true) o) ≡ (a || is_some (cond a (Some e.1) o))
  same true o = refl
  same false o = refl

  by : (b : Bool) → (port.0 == e.0.0) ≡ b → is_some (lookup (λ (q : PortNo). other.0 == q.0) (insert_entry eq entries port true)) ≡ ((other.0 == port.0) || is_some (lookup (λ (q : PortNo). other.0 == q.0) entries)) → is_some (lookup (λ (q : PortNo). other.0 == q.0) (cond b ((e.0, true) ∷ entries) (e ∷ insert_entry eq entries port true))) ≡ ((other.0 == port.0) || is_some (cond (other.0 == e.0.0) (Some e.1) (lookup (λ (q : PortNo). other.0 == q.0) entries)))
  by true h rest =
      let at : port.0 ≡ e.0.0 = eqb-true port.0 e.0.0 h in
      rw at (same (other.0 == e.0.0) (lookup (λ (q : PortNo). other.0 == q.0) entries))
  by false h rest =
      swap (other.0 == e.0.0) (other.0 == port.0) (lookup (λ (q : PortNo). other.0 == q.0) (insert_entry eq entries port true)) (is_some (lookup (λ (q : PortNo). other.0 == q.0) entries)) rest
      ∙ ap (λ (b : Bool). (other.0 == port.0) || b) (some (lookup (λ (q : PortNo). other.0 == q.0) entries) (other.0 == e.0.0))
