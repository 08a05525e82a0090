-- The label that serves a flow, and what a packet of it makes of a port

use Rattle.std.proofs.Common.{◌≡◌, ℕ, ◌<◌, Bool, true, false, List, [], ◌∷◌, refl, sym, ap, ◌∙◌, Option, None, Some, option_map, is_some, if◌then◌else◌, arith}
use Rattle.std.specs.Prelude.{find, ◌&&◌}
use Rattle.std.specs.List.{AllByRecursion}
use Rattle.std.specs.Option.{option_map_or}
use Rattle.ipv4_packet.specs.declared.flow.FlowId.{FlowId}
use Rattle.keyed_lists.specs.Keyed.{at}
use Rattle.port_model.specs.Desk.{Desk}
use Rattle.port_labels.specs.Book.{Book, IsBook, Rises}
use Rattle.port_labels.proofs.Numbered.{at_here, at_there}
use Rattle.port_model.specs.declared.action.Action.{Action}
use Rattle.port_model.specs.Setup.{Setup}
use Rattle.port_model.specs.Labels.{Label, label_for, label_number, lowest_spare}
use Rattle.port_model.specs.Counts.{counted_once, packets_in}
use Rattle.port_model.specs.Port.{Port, Session, Work, has_room, label_at, labels_of}
use Rattle.port_model.specs.Counting.{counts_by, counts_flow, offers, wires}
use Rattle.port_state.specs.Parts.{changed_session}
use Rattle.port_saying.specs.Rules.{begun}

-- one whose number rises above others is found by its number
above : (n : ℕ) (test : Label → Bool) (xs : List Label) (x : Label) → AllByRecursion (λ y. n < y.number) xs → find test xs ≡ Some x → n < x.number
above n test [] x all is = absurd (cc is)
above n test (y ∷ ys) x all is = by (test y) (above n test ys x all.1) is
  where
    by : (b : Bool) → (find test ys ≡ Some x → n < x.number) → (if b then Some y else find test ys) ≡ Some x → n < x.number
    by true later e = let same : y ≡ x = cc e in rw same at all.0
    by false later e = later e

pub found_by_number : (test : Label → Bool) (xs : List Label) (x : Label) → Rises xs → find test xs ≡ Some x → at label_number x.number xs ≡ Some x
found_by_number test [] x up is = absurd (cc is)
found_by_number test (y ∷ ys) x up is = by (test y) (found_by_number test ys x up.1) is
  where
    by : (b : Bool) → (find test ys ≡ Some x → at label_number x.number ys ≡ Some x) → (if b then Some y else find test ys) ≡ Some x → at label_number x.number (y ∷ ys) ≡ Some x
    by true later e = let same : y ≡ x = cc e in at_here x.number y ys (ap label_number same) ∙ e
    by false later e = at_there x.number y ys (λ same. absurd (omega (arith, same, above y.number test ys x up.0 e))) ∙ later e

pub served : (port : Port) (s : Session) (book : Book) → port.session ≡ Some s → book.labels ≡ s.labels → IsBook book → (flow : FlowId) (label : Label)
    → label_for (labels_of port) flow ≡ Some label → label_at port label.number ≡ Some label
served port s book is same sound flow label serves =
    let all : labels_of port ≡ s.labels = ap (λ (o : Option Session). option_map_or (λ (t : Session). t.labels) o []) is in
    ap (λ (ls : List Label). at label_number label.number ls) all
    ∙ found_by_number _ s.labels label (rw same at sound.rises) (sym (ap (λ (ls : List Label). label_for ls flow) all) ∙ serves)

pub unserved : (port : Port) → port.session ≡ None → (flow : FlowId) (label : Label) → label_for (labels_of port) flow ≡ Some label → label_at port label.number ≡ Some label
unserved port is flow label serves =
    let none : labels_of port ≡ [] = ap (λ (o : Option Session). option_map_or (λ (t : Session). t.labels) o []) is in
    let clash : None ≡ Some label = sym (ap (λ (ls : List Label). label_for ls flow) none) ∙ serves in
    absurd (cc clash)

pub served_by : (port : Port) (flow : FlowId) (label : Label) → ((s : Session) → port.session ≡ Some s → (book : Book) × (book.labels ≡ s.labels) × IsBook book)
    → label_for (labels_of port) flow ≡ Some label → label_at port label.number ≡ Some label
served_by port flow label book serves = by port.session refl
  where
    by : (o : Option Session) → port.session ≡ o → label_at port label.number ≡ Some label
    by None is = unserved port is flow label serves
    by (Some s) is = let b = book s is in served port s b.0 is b.1 b.2 flow label serves

-- *A packet of a flow that no label serves*
pub none_of : {A B : Type 0} (f : A → B) (o : Option A) → option_map f o ≡ None → o ≡ None
none_of f None e = refl
none_of f (Some x) e = absurd (cc e)

pub some_of : {A : Type 0} (o : Option A) → is_some o ≡ true → (x : A) × (o ≡ Some x)
some_of None e = absurd (cc e)
some_of (Some x) e = (x, refl)

abbrev pub once_more : FlowId → Session → Session
once_more flow s = record s { counted = counted_once s.counted flow }

module _ (setup : Setup) (desk : Desk) (port : Port) (actions : List Action) (n : ℕ) (flow : FlowId) where
  abbrev work : Work
  work = begun port actions n

  pub counts_unserved : (next : Port) (s : Session) → port.session ≡ Some s → label_for (labels_of port) flow ≡ None → next ≡ changed_session port (once_more flow)
      → counts_by setup desk work port.session (Some flow) ≡ offers setup desk (begun next actions n) (once_more flow s) flow
  counts_unserved next s is none counted =
      let all : labels_of port ≡ s.labels = ap (λ (o : Option Session). option_map_or (λ (t : Session). t.labels) o []) is in
      ap (λ (o : Option Session). counts_by setup desk work o (Some flow)) is
      ∙ ap (counts_flow setup desk work s flow) (sym (ap (λ (ls : List Label). label_for ls flow) all) ∙ none)
      ∙ ap (λ (o : Option Session). offers setup desk (begun (record port { session = option_map (λ (old : Session). once_more flow s) o }) actions n) (once_more flow s) flow) is
      ∙ ap (λ (p : Port). offers setup desk (begun p actions n) (once_more flow s) flow)
      (sym (counted ∙ ap (λ (o : Option Session). record port { session = option_map (once_more flow) o }) is))

  -- none is offered where at least 1,024 requests will stand
  pub offers_held : (s : Session) → has_room desk work ≡ false → offers setup desk work s flow ≡ work
  offers_held s full = by (setup.policy.offers flow (packets_in s.counted flow)) (has_room desk work) full
    where
      by : (a b : Bool) → b ≡ false → (if a && b then wires setup work flow (lowest_spare setup s.least s.greatest s.labels) else work) ≡ work
      by true true e = absurd (cc e)
      by true false e = refl
      by false true e = refl
      by false false e = refl

  pub offers_label : (s : Session) → setup.policy.offers flow (packets_in s.counted flow) ≡ true → has_room desk work ≡ true
      → offers setup desk work s flow ≡ wires setup work flow (lowest_spare setup s.least s.greatest s.labels)
  offers_label s long room = by (setup.policy.offers flow (packets_in s.counted flow)) (has_room desk work) long room
    where
      by : (a b : Bool) → a ≡ true → b ≡ true → (if a && b then wires setup work flow (lowest_spare setup s.least s.greatest s.labels) else work) ≡ wires setup work flow (lowest_spare setup s.least s.greatest s.labels)
      by true true e f = refl
      by true false e f = absurd (cc f)
      by false b e f = absurd (cc e)
