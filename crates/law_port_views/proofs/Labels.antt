-- the labels of a port change: the label of the line, or another

use Rattle.std.proofs.Common.{◌≡◌, ◌≢◌, ℕ, false, List, [], Option, None, Some, refl, sym, ◌∙◌, ap, subst}
use Rattle.std.specs.Prelude.{is_some}
use Rattle.std.specs.Option.{option_map_or}
use Rattle.law_port_facts.specs.port_model.Words.{at, put, without, entered, key_le, Label, label_number, Session, Work, with_label, with_new_label, without_label, label_at}
use Rattle.law_port_facts.proofs.Keyed.{at_put_same, at_put_other}
use Rattle.law_label_line.specs.Cells.{Downstream, Upstream, Cell}
use Rattle.law_label_line.specs.Line as lines
use Rattle.law_label_line.specs.Line.{Line}
use Rattle.law_port_views.specs.Link.{LinkLabel}
use Rattle.law_port_views.specs.Shown.{label_of, flow_of, number_of, known_number, Shown}
use Rattle.law_port_views.proofs.Lists.{at_without_same, at_without_other, at_entered_same, at_entered_other}
use Rattle.law_port_views.proofs.Live.{live_session}
use Rattle.law_port_views.proofs.Tells.{session_minded}

-- the line with this label, and this flow, behind a change
abbrev pub labelled : Line → lines.Label → (flow : ℕ) → Line
labelled line label flow = record line { label = label; flow = flow }

module _ (link : LinkLabel) (like : Type 0) (queued : List Cell) where
  -- a session with other labels and the same numbers
  pub labels_down : (w : Work) (s : Session) (labels : List Label) (o : Option Label) (line : Line) (k : lines.Label) (f : ℕ) → w.port.session ≡ Some s
      → at label_number link.label labels ≡ o → k ≡ label_of o → f ≡ flow_of f o
      → Shown Downstream link like queued w line
      → Shown Downstream link like queued (record w { port = record w.port { session = Some (record s { labels = labels }) } }) (labelled line k f)
  labels_down w s labels o line k f opened found label flow h = record {
    side = h.side;
    session = sym (ap (λ (z : Option Session). is_some z) opened) ∙ h.session;
    label = label ∙ ap label_of (sym found);
    flow = flow ∙ ap (flow_of f) (sym found);
    number = h.number ∙ ap number_of opened;
    unspent = h.unspent;
    known = h.known ∙ ap known_number opened;
    reassembled = h.reassembled;
    drawn = h.drawn;
    own = h.own;
    sent = h.sent;
  }

  -- *Another label* of the port changes
  still : (w : Work) (s : Session) (labels : List Label) (line : Line) → w.port.session ≡ Some s
      → at label_number link.label labels ≡ at label_number link.label s.labels → Shown Downstream link like queued w line
      → Shown Downstream link like queued (record w { port = record w.port { session = Some (record s { labels = labels }) } }) line
  still w s labels line opened same h =
      let is : at label_number link.label labels ≡ label_at w.port link.label
      = same ∙ sym (ap (λ (o : Option Session). at label_number link.label (option_map_or (λ (z : Session). z.labels) o [])) opened) in
      labels_down w s labels (label_at w.port link.label) line line.label line.flow opened is h.label h.flow h

  pub other_label : (w : Work) (s : Session) (x : Label) (line : Line) → w.halted ≡ false → w.port.session ≡ Some s → x.number ≢ link.label
      → Shown Downstream link like queued w line → Shown Downstream link like queued (with_label w x) line
  other_label w s x line live opened n h = live_session (λ (v : Work). Shown Downstream link like queued v line) w s (λ z. record z { labels = put label_number x z.labels }) live opened
      (still w s (put label_number x s.labels) line opened (at_put_other label_number x link.label s.labels n) h)

  pub other_new_label : (w : Work) (s : Session) (x : Label) (line : Line) → w.halted ≡ false → w.port.session ≡ Some s → x.number ≢ link.label
      → Shown Downstream link like queued w line → Shown Downstream link like queued (with_new_label w x) line
  other_new_label w s x line live opened n h = live_session (λ (v : Work). Shown Downstream link like queued v line) w s (λ z. record z { labels = entered (key_le label_number) x z.labels }) live opened
      (still w s (entered (key_le label_number) x s.labels) line opened (at_entered_other label_number (key_le label_number) x link.label s.labels n) h)

  pub other_freed : (w : Work) (s : Session) (number : ℕ) (line : Line) → w.halted ≡ false → w.port.session ≡ Some s → number ≢ link.label
      → Shown Downstream link like queued w line → Shown Downstream link like queued (without_label w number) line
  other_freed w s number line live opened n h = live_session (λ (v : Work). Shown Downstream link like queued v line) w s (λ z. record z { labels = without label_number number z.labels }) live opened
      (still w s (without label_number number s.labels) line opened (at_without_other label_number number link.label s.labels n) h)

  -- *The label* itself does: it is found, and is another now; it was spare, and is queued; it is spare again
  found_in : (w : Work) (s : Session) (x : Label) → w.port.session ≡ Some s → label_at w.port link.label ≡ Some x → at label_number link.label s.labels ≡ Some x
  found_in w s x opened found = ap (λ (o : Option Session). at label_number link.label (option_map_or (λ (z : Session). z.labels) o [])) (sym opened) ∙ found

  pub own_label : (w : Work) (s : Session) (before after : Label) (line : Line) (k : lines.Label) (f : ℕ) → w.halted ≡ false → w.port.session ≡ Some s
      → label_at w.port link.label ≡ Some before → after.number ≡ link.label → k ≡ label_of (Some after) → f ≡ flow_of f (Some after)
      → Shown Downstream link like queued w line
      → Shown Downstream link like queued (with_label w after) (labelled line k f)
  own_label w s before after line k f live opened found n label flow h =
      live_session (λ (v : Work). Shown Downstream link like queued v (labelled line k f)) w s (λ z. record z { labels = put label_number after z.labels }) live opened
      (labels_down w s (put label_number after s.labels) (Some after) line k f opened
      (subst (λ (j : ℕ). at label_number j (put label_number after s.labels) ≡ Some after) n
      (at_put_same label_number after s.labels before (subst (λ (j : ℕ). at label_number j s.labels ≡ Some before) (sym n) (found_in w s before opened found))))
      label flow h)

  pub own_new_label : (w : Work) (s : Session) (x : Label) (line : Line) (k : lines.Label) (f : ℕ) → w.halted ≡ false → w.port.session ≡ Some s
      → at label_number link.label s.labels ≡ None → x.number ≡ link.label → k ≡ label_of (Some x) → f ≡ flow_of f (Some x)
      → Shown Downstream link like queued w line
      → Shown Downstream link like queued (with_new_label w x) (labelled line k f)
  own_new_label w s x line k f live opened spare n label flow h =
      live_session (λ (v : Work). Shown Downstream link like queued v (labelled line k f)) w s (λ z. record z { labels = entered (key_le label_number) x z.labels }) live opened
      (labels_down w s (entered (key_le label_number) x s.labels) (Some x) line k f opened
      (subst (λ (j : ℕ). at label_number j (entered (key_le label_number) x s.labels) ≡ Some x) n
      (at_entered_same label_number (key_le label_number) x s.labels (subst (λ (j : ℕ). at label_number j s.labels ≡ None) (sym n) spare)))
      label flow h)

  pub own_freed : (w : Work) (s : Session) (number : ℕ) (line : Line) → w.halted ≡ false → w.port.session ≡ Some s → number ≡ link.label
      → Shown Downstream link like queued w line
      → Shown Downstream link like queued (without_label w number) (labelled line lines.Spare line.flow)
  own_freed w s number line live opened n h =
      live_session (λ (v : Work). Shown Downstream link like queued v (labelled line lines.Spare line.flow)) w s (λ z. record z { labels = without label_number number z.labels }) live opened
      (labels_down w s (without label_number number s.labels) None line lines.Spare line.flow opened
      (subst (λ (j : ℕ). at label_number link.label (without label_number j s.labels) ≡ None) (sym n) (at_without_same label_number link.label s.labels))
      refl refl h)

-- *The other end* has nothing of the labels of its port
module _ (link : LinkLabel) (like : Type 0) (queued : List Cell) where
  pub label_up : (w : Work) (x : Label) (line : Line) → Shown Upstream link like queued w line → Shown Upstream link like queued (with_label w x) line
  label_up w x line h = session_minded link like queued w (λ z. record z { labels = put label_number x z.labels }) line (λ z. refl) h

  pub new_label_up : (w : Work) (x : Label) (line : Line) → Shown Upstream link like queued w line → Shown Upstream link like queued (with_new_label w x) line
  new_label_up w x line h = session_minded link like queued w (λ z. record z { labels = entered (key_le label_number) x z.labels }) line (λ z. refl) h

  pub freed_up : (w : Work) (number : ℕ) (line : Line) → Shown Upstream link like queued w line → Shown Upstream link like queued (without_label w number) line
  freed_up w number line h = session_minded link like queued w (λ z. record z { labels = without label_number number z.labels }) line (λ z. refl) h
