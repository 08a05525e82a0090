-- what a controller's rules leave has no fewer entries in the ledger; and what follows on a packet that was forwarded

use Rattle.std.proofs.Common.{◌≡◌, ℕ, ◌≤◌, List, [], ◌∷◌, length, Option, None, Some, refl, sym, ap, subst, arith, fold}
use Rattle.std.specs.Option.{option_map}
use Rattle.std.proofs.lemmas.List.{length-append}
use Rattle.world_model.specs.Words.{PortNo, Mark, Record, Journal, losses_of, noted, made, with_control, put, Session, Label, label_number, label_at, Work, Action, used, used_label, Linked, linked_at, begins, with_work, works, at_port, performs_in_estab, counts, counted_at}
use Rattle.world_model.specs.Controller.{Acted}
use Rattle.law_live_ease.proofs.law_port_facts.Keyed.{on_both}
use Rattle.law_live_ease.proofs.law_passing.Rules.{Adds, itself, at_port_adds}
use Rattle.law_live_ease.proofs.law_live_journeys.Later.{Grows, grows_counted, Later, later_self, later_counted}

-- *The ledger grows*, by each loss that is noted, whatever mark it has
pub record HasMore (a b : Journal) : Type 0 where
  pub entries : length a.entries ≤ length b.entries

more_self : (a : Journal) → HasMore a a
more_self a = record { entries = omega arith }

more_then : {a b c : Journal} → HasMore a b → HasMore b c → HasMore a c
more_then p q = record { entries = omega (arith, p.entries, q.entries) }

more_noted : (a : Journal) (item : Record) → HasMore a (noted a item)
more_noted a item = record { entries = omega (arith, length-append a.entries (losses_of (item ∷ []))) }

-- a payload is made under a mark, and a frame that finds no slots is entered besides
more_made : (a : Journal) (mark : Mark) (payload : List ℕ) → mark.packet ≡ 0 → HasMore a (made a mark payload)
more_made a mark payload zero = record { entries = omega arith }

grows : Grows HasMore
grows = record { itself = more_self; further = more_then; with_noted = more_noted; with_control = more_made }

-- *What follows* on a packet that was forwarded: cells behind those in the queue, and more notes
pub record Follows (a b : Acted) : Type 0 where
  pub adds : Adds a b
  pub later : Later a.notes b.notes
  pub more : HasMore a.notes b.notes

pub follows_itself : (a : Acted) → Follows a a
follows_itself a = record { adds = itself a; later = later_self a.notes; more = more_self a.notes }

-- it is counted
pub follows_counted : (a : Acted) (port : PortNo) (packet : List ℕ) → Follows a (counted_at a port packet)
follows_counted a port packet = record {
  adds = at_port_adds a port (λ setup desk work. counts setup desk work packet);
  later = later_counted a port packet;
  more = grows_counted HasMore grows a port packet;
}

-- or the label on whose channel it came is in use
pub follows_used : (a : Acted) (port : PortNo) (number : ℕ) → Follows a (at_port a port (λ setup desk w. used w number))
follows_used a port number = record {
  adds = at_port_adds a port (λ setup desk w. used w number);
  later = subst (λ (n : Journal). Later a.notes n) (sym same) (later_self a.notes);
  more = subst (λ (n : Journal). HasMore a.notes n) (sym same) (more_self a.notes);
}
  where
    by_label : (w : Work) (o : Option Label) → (used_label w o).actions ≡ w.actions
    by_label w None = refl
    by_label w (Some label) = on_both (λ (v : Work). v.actions ≡ w.actions) w.halted w
        (record w { port = record w.port { session = option_map (λ (s : Session). record s { labels = put label_number (record label { idle = 0 }) s.labels }) w.port.session } }) refl refl

    asks_nothing : (w : Work) → (used w number).actions ≡ w.actions
    asks_nothing w = by_label w (label_at w.port number)

    by_port : (o : Option Linked) → (works a (λ setup desk w. used w number) o).notes ≡ a.notes
    by_port None = refl
    by_port (Some linked) = ap (λ (actions : List Action). (fold (performs_in_estab linked.setup.port) (with_work a linked (used (begins a linked) number)) actions).notes) (asks_nothing (begins a linked))

    same : (at_port a port (λ setup desk w. used w number)).notes ≡ a.notes
    same = by_port (linked_at a.controller port)
