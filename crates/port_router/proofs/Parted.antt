-- A label that isn't joined is parted as it is.

use Rattle.std.proofs.Common.{◌≡◌, ℕ, false, List, [], Option, Some, None, is_some, option_map, refl, sym, ap, subst, ◌∙◌}
use Rattle.std.specs.Option.{option_map_or}
use Rattle.net_types.specs.declared.channel.End.{End}
use Rattle.keyed_lists.specs.Keyed.{at, put}
use Rattle.port_model.specs.Joins.{joins_label}
use Rattle.port_model.specs.Labels.{Label, label_number}
use Rattle.port_model.specs.Port.{Port, Session, label_at, labels_of}
use Rattle.redirect_state.proofs.port_session.Keyed.{at_key}
use Rattle.redirect_state.proofs.port_saying.Keys.{put_found}

found_again : (port : Port) (number : ℕ) (label : Label) → label_at port number ≡ Some label → label_at port label.number ≡ Some label
found_again port number label found = subst (λ (k : ℕ). label_at port k ≡ Some label) (sym (at_key label_number number (labels_of port) label found)) found

not_some : (o : Option End) → is_some o ≡ false → o ≡ None
not_some None e = refl
not_some (Some x) e = absurd (cc e)

session_stays : (o : Option Session) (label : Label) → at label_number label.number (option_map_or (λ (s : Session). s.labels) o []) ≡ Some label → label.join ≡ None
    → o ≡ option_map (λ (s : Session). record s { labels = put label_number (record label { join = None }) s.labels }) o
session_stays None label found free = refl
session_stays (Some s) label found free =
    let same : record label { join = None } ≡ label = ap (λ (j : Option End). record label { join = j }) (sym free) in
    ap (λ (labels : List Label). Some (record s { labels = labels })) (sym (ap (λ (l : Label). put label_number l s.labels) same ∙ put_found label_number label s.labels found))

stays_by : (port : Port) (n number : ℕ) (o : Option Label) → label_at port number ≡ o → option_map_or (λ (l : Label). is_some l.join) o false ≡ false
    → port ≡ (joins_label (record { port = port; actions = []; halted = false; instances = n }) None o).port
stays_by port n number None is free = refl
stays_by port n number (Some label) is free =
    ap (λ (o : Option Session). record port { session = o }) (session_stays port.session label (found_again port number label is) (not_some label.join free))

pub unjoined_stays : (port : Port) (n number : ℕ) → option_map_or (λ (l : Label). is_some l.join) (label_at port number) false ≡ false
    → port ≡ (joins_label (record { port = port; actions = []; halted = false; instances = n }) None (label_at port number)).port
unjoined_stays port n number free = stays_by port n number (label_at port number) refl free
