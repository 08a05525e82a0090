-- A session that is changed: what stays, and what is found behind the change

use Rattle.std.proofs.Common.{◌≡◌, ℕ, Bool, true, false, List, [], map, refl, sym, ap, ◌∙◌, Option, None, Some, is_some, option_map, if◌then◌else◌}
use Rattle.std.specs.Prelude.{IfSome}
use Rattle.std.specs.Option.{option_map_or}
use Rattle.keyed_lists.specs.Keyed.{at, put}
use Rattle.port_model.specs.Labels.{Label, Wired, label_number}
use Rattle.port_model.specs.Port.{Port, Session, label_at}
use Rattle.port_state.specs.Parts.{numbers_of, with_label}
use Rattle.port_saying.proofs.Keys.{at_put, keys_put, put_twice}

-- *A label is another now*: the numbers stay
pub numbers_kept : (port : Port) (label : Label) → numbers_of (with_label port label) ≡ numbers_of port
numbers_kept port label = by port.session
  where
    by : (o : Option Session) → map label_number (option_map_or (λ (s : Session). s.labels) (option_map (λ (s : Session). record s { labels = put label_number label s.labels }) o) []) ≡ map label_number (option_map_or (λ (s : Session). s.labels) o [])
    by None = refl
    by (Some s) = keys_put label_number label s.labels

-- a label that is quit, or isn't
pub quit_numbers : (port next : Port) (found : Option Label) (label : Label) (gone : Bool) → found ≡ Some label
    → IfSome found (λ l. next ≡ (if gone then with_label port (record l { state = Wired }) else port)) → numbers_of next ≡ numbers_of port
quit_numbers port next None label gone e h = absurd (cc e)
quit_numbers port next (Some l) label true e h = ap numbers_of h ∙ numbers_kept port (record l { state = Wired })
quit_numbers port next (Some l) label false e h = ap numbers_of h

-- it is found
pub label_there : (port : Port) (label before : Label) → label_at port label.number ≡ Some before → label_at (with_label port label) label.number ≡ Some label
label_there port label before found = by port.session found
  where
    by : (o : Option Session) → at label_number label.number (option_map_or (λ (s : Session). s.labels) o []) ≡ Some before
        → at label_number label.number (option_map_or (λ (s : Session). s.labels) (option_map (λ (s : Session). record s { labels = put label_number label s.labels }) o) []) ≡ Some label
    by None h = absurd (cc h)
    by (Some s) h = at_put label_number label before s.labels h

-- and the later of two changes stays
pub label_twice : (port : Port) (x y : Label) → x.number ≡ y.number → with_label (with_label port x) y ≡ with_label port y
label_twice port x y same = ap (λ (o : Option Session). record port { session = o }) (by port.session)
  where
    by : (o : Option Session) → option_map (λ (s : Session). record s { labels = put label_number y s.labels }) (option_map (λ (s : Session). record s { labels = put label_number x s.labels }) o)
        ≡ option_map (λ (s : Session). record s { labels = put label_number y s.labels }) o
    by None = refl
    by (Some s) = ap (λ (ls : List Label). Some (record s { labels = ls })) (put_twice label_number x y s.labels same)

-- a session that is found has the labels
pub in_session : (port : Port) (number : ℕ) (label : Label) → label_at port number ≡ Some label → is_some port.session ≡ true
in_session port number label found = by port.session found
  where
    by : (o : Option Session) → at label_number number (option_map_or (λ (s : Session). s.labels) o []) ≡ Some label → is_some o ≡ true
    by None h = absurd (cc h)
    by (Some s) h = refl

-- a port with the session that it has
pub same_session : (port : Port) (o : Option Session) → port.session ≡ o → record port { session = o } ≡ port
same_session port o is = ap (λ (v : Option Session). record port { session = v }) (sym is)
