-- a controller that is ready stays so behind each rule of its ports

use Rattle.std.proofs.Common.{◌≡◌, ℕ, ◌≤◌, ◌<◌, false, List, [], ◌∷◌, Option, None, Some, refl, arith, fold}
use Rattle.std.specs.Prelude.{◌^◌}
use Rattle.law_arrival_views.specs.world_model.Words.{PortNo, Addr, Request, InRange, FitsMessage, Setup, Work, hears, used, Linked, linked_at, begins, with_work, Rule, performs_in_estab, works_as, works, at_port, ticks_port, ticks_ports}
use Rattle.law_arrival_views.specs.world_model.ifmp_wire.declared.message.Message.{Message}
use Rattle.law_label_steps.specs.ordered_lists.Ordered.{Every}
use Rattle.law_label_steps.proofs.law_port_facts.Instances.{goes_gave}
use Rattle.law_label_steps.proofs.law_port_facts.Rules.{used_goes, done_goes}
use Rattle.law_label_steps.proofs.law_port_facts.Hearings.{hears_goes, ticks_goes}
use Rattle.law_arrival_views.specs.world_model.port_model.Port.{Port}
use Rattle.law_arrival_views.specs.world_model.port_model.Answers.{done}
use Rattle.law_arrival_views.specs.world_model.port_model.Ticks.{ticks}
use Rattle.law_label_steps.proofs.law_port_views.Refreshing.{room_ticks}
use Rattle.law_arrival_views.specs.law_port_widths.Widths.{FitsPort, FitsWork, FitsSetup}
use Rattle.law_arrival_views.proofs.law_port_widths.Rules.{hears_fit, used_fit, done_fit, ticks_fit, resets_fit, restarts_fit}
use Rattle.law_label_steps.specs.Follows.{IsUnspent}
use Rattle.law_label_steps.proofs.Unspent.{hears_unspent, used_unspent, done_unspent}
use Rattle.law_arrival_views.specs.world_model.Controller.{Acted, ports_of}
use Rattle.law_arrival_views.proofs.law_controller_facts.Moves.{Worked, by_rule, HasPorts, Moves, found_at_own}
use Rattle.law_arrival_views.proofs.law_controller_facts.Performing.{works_as_goes}
use Rattle.law_arrival_views.proofs.law_controller_facts.Laws.{has_ports, moves_sound}
use Rattle.law_arrival_views.proofs.law_controller_facts.Flows.{moves_flow}
use Rattle.law_arrival_views.specs.law_controller_views.Ready.{IsReadyPort, IsReady}
use Rattle.law_controller_lifts.proofs.Lifts.{ready_port, fits_there, heard_any}
use Rattle.law_controller_lifts.proofs.Halted.{HasReset, goes_asked}
use Rattle.law_controller_lifts.proofs.Kept.{IsClosed, Of, Goes, goes_on, goes_fold, work_goes, performed_goes}
use Rattle.law_controller_lifts.proofs.Unspent.{Unspent, works_unspent}

-- *Widths* are kept by resets too
abbrev pub Fits : Setup → Port → Type 0
Fits setup port = FitsSetup setup × FitsPort port

pub fits_closed : IsClosed Fits
fits_closed = record {
  reset = λ setup port n f h. (h.0, (resets_fit setup (record { port = port; actions = []; halted = false; instances = n }) h.0 f (record { port = h.1; said = tt })).port);
  restart = λ setup port n f h. (h.0, (restarts_fit setup (record { port = port; actions = []; halted = false; instances = n }) h.0 f (record { port = h.1; said = tt })).port);
}

-- *Both*
pub split_unspent : (xs : List Linked) → Every IsReadyPort xs → Every (Of Unspent) xs
split_unspent [] h = tt
split_unspent (x ∷ xs) h = (h.0.unspent, split_unspent xs h.1)

pub split_fits : (xs : List Linked) → Every IsReadyPort xs → Every (Of Fits) xs
split_fits [] h = tt
split_fits (x ∷ xs) h = ((h.0.setup, h.0.fits), split_fits xs h.1)

pub both_ready : (xs : List Linked) → Every (Of Unspent) xs → Every (Of Fits) xs → Every IsReadyPort xs
both_ready [] u f = tt
both_ready (x ∷ xs) u f = (record { unspent = u.0; setup = f.0.0; fits = f.0.1 }, both_ready xs u.1 f.1)

module _ (setups : List Setup) where
  -- no instance is given back, and a controller that is ready stays so where the instances given out fit
  pub record Readies (a b : Acted) : Type 0 where
    pub rises : a.numbers.instances ≤ b.numbers.instances
    pub ready : b.numbers.instances < 2 ^ 32 → IsReady setups a.controller → IsReady setups b.controller

  pub still_ready : (a : Acted) → Readies a a
  still_ready a = record { rises = omega arith; ready = λ f h. h }

  pub readies_on : (a b c : Acted) → Readies a b → Readies b c → Readies a c
  readies_on a b c g k = record { rises = omega (arith, g.rises, k.rises); ready = λ f h. k.ready f (g.ready (omega (arith, f, k.rises)) h) }

  pub readies_fold : {A : Type 0} (f : Acted → A → Acted) → ((a : Acted) (x : A) → Readies a (f a x)) → (xs : List A) (a : Acted) → Readies a (fold f a xs)
  readies_fold f each [] a = still_ready a
  readies_fold f each (x ∷ xs) a = readies_on a (f a x) (fold f (f a x) xs) (each a x) (readies_fold f each xs (f a x))

  -- what moves lead to, and keeps each property of ports
  pub moves_ready : (a b : Acted) → ((h : HasPorts setups a) → Moves setups a b) → Goes Unspent a b → Goes Fits a b → Readies a b
  moves_ready a b moves unspent fits = record {
    rises = unspent.rises;
    ready = λ f h. (let m : Moves setups a b = moves (has_ports setups a h.sound) in record {
      sound = moves_sound setups a b m h.sound;
      flows = moves_flow setups a b m h.flows;
      ranged = h.ranged;
      ports = both_ready b.controller.ports (unspent.keeps f (split_unspent a.controller.ports h.ports)) (fits.keeps f (split_fits a.controller.ports h.ports));
    });
  }

  -- *A rule of a port*
  pub record Ruled (a : Acted) (linked : Linked) (w : Work) : Type 0 where
    pub worked : Worked setups linked.setup a.controller.desk (begins a linked) w
    pub unspent : IsUnspent w
    pub asked : HasReset w
    pub fits : FitsWork w

  works_fit : (a : Acted) (linked : Linked) (w : Work) → a.numbers.instances ≤ w.instances → FitsWork w → FitsSetup linked.setup → Goes Fits a (works_as a linked w)
  works_fit a linked w rises fits fixed = goes_on Fits fits_closed a (with_work a linked w) (works_as a linked w) (work_goes Fits fits_closed a linked w rises (λ f h. (fixed, fits.port)))
      (goes_fold Fits fits_closed (performs_in_estab linked.setup.port) (performed_goes Fits fits_closed linked.setup.port) w.actions (with_work a linked w))

  works_rises : (a : Acted) (linked : Linked) (w : Work) → a.numbers.instances ≤ w.instances → a.numbers.instances ≤ (works_as a linked w).numbers.instances
  works_rises a linked w rises = omega (
    arith,
    rises,
    (goes_fold (λ setup port. Unit {0}) (record { reset = λ setup port n f h. tt; restart = λ setup port n f h. tt }) (performs_in_estab linked.setup.port)
        (performed_goes (λ setup port. Unit {0}) (record { reset = λ setup port n f h. tt; restart = λ setup port n f h. tt }) linked.setup.port) w.actions (with_work a linked w)).rises,
  )

  pub ruled_ready : (a : Acted) (q : PortNo) (rule : Rule)
      → ((linked : Linked) → linked_at a.controller q ≡ Some linked → a.numbers.instances ≤ (rule linked.setup a.controller.desk (begins a linked)).instances)
      → ((linked : Linked) → linked_at a.controller q ≡ Some linked → IsReady setups a.controller → Ruled a linked (rule linked.setup a.controller.desk (begins a linked)))
      → Readies a (at_port a q rule)
  ruled_ready a q rule drawn ruled = by (linked_at a.controller q) refl
    where
      by : (o : Option Linked) → linked_at a.controller q ≡ o → Readies a (works a rule o)
      by None found = still_ready a
      by (Some linked) found =
          let w : Work = rule linked.setup a.controller.desk (begins a linked) in
          record {
            rises = works_rises a linked w (drawn linked found);
            ready = λ f h.
                let r : Ruled a linked w = ruled linked found h in
                let m : Moves setups a (works_as a linked w) = works_as_goes setups a linked w (has_ports setups a h.sound) (found_at_own setups a linked q found) r.worked in
                record {
                  sound = moves_sound setups a (works_as a linked w) m h.sound;
                  flows = moves_flow setups a (works_as a linked w) m h.flows;
                  ranged = h.ranged;
                  ports = both_ready (works_as a linked w).controller.ports
                      (works_unspent setups a q linked w h.sound found r.worked r.unspent r.asked f (split_unspent a.controller.ports h.ports))
                      ((works_fit a linked w (drawn linked found) r.fits (ready_port setups a h q linked found).setup).keeps f (split_fits a.controller.ports h.ports));
                };
          }

  pub begun_asked : (a : Acted) (linked : Linked) → HasReset (begins a linked)
  begun_asked a linked = record { asked = λ e. absurd (cc e) }

  -- *Each rule*
  pub ticks_ready : (a : Acted) (q : PortNo) → Readies a (ticks_port a q)
  ticks_ready a q = ruled_ready a q ticks
      (λ linked found. (let same = goes_gave a.numbers.instances linked.setup a.controller.desk (begins a linked) (ticks linked.setup a.controller.desk (begins a linked)) (ticks_goes linked.setup a.controller.desk (begins a linked) refl) refl in omega (arith, same)))
      (λ linked found h. record {
        worked = by_rule (ticks linked.setup a.controller.desk (begins a linked)) (ticks_goes linked.setup a.controller.desk (begins a linked) refl);
        unspent = room_ticks linked.setup a.controller.desk (begins a linked) (λ live. (ready_port setups a h q linked found).unspent);
        asked = goes_asked linked.setup a.controller.desk (begins a linked) (ticks linked.setup a.controller.desk (begins a linked)) (ticks_goes linked.setup a.controller.desk (begins a linked) refl) (begun_asked a linked);
        fits = ticks_fit linked.setup a.controller.desk (ready_port setups a h q linked found).setup (begins a linked) (fits_there setups a h q linked found);
      })

  pub hears_ready : (a : Acted) (q : PortNo) (source : Addr) (message : Message) → source.0 < 2 ^ 32 → InRange message → FitsMessage message → Readies a (at_port a q (λ setup desk w. hears setup desk w source message))
  hears_ready a q source message small range fits = ruled_ready a q (λ setup desk w. hears setup desk w source message)
      (λ linked found. (let same = goes_gave a.numbers.instances linked.setup a.controller.desk (begins a linked) (hears linked.setup a.controller.desk (begins a linked) source message) (hears_goes linked.setup a.controller.desk (begins a linked) source message refl (heard_any message range)) refl in omega (arith, same)))
      (λ linked found h. record {
        worked = by_rule (hears linked.setup a.controller.desk (begins a linked) source message) (hears_goes linked.setup a.controller.desk (begins a linked) source message refl (heard_any message range));
        unspent = hears_unspent linked.setup a.controller.desk (begins a linked) source message (λ live. (ready_port setups a h q linked found).unspent);
        asked = goes_asked linked.setup a.controller.desk (begins a linked) (hears linked.setup a.controller.desk (begins a linked) source message) (hears_goes linked.setup a.controller.desk (begins a linked) source message refl (heard_any message range)) (begun_asked a linked);
        fits = hears_fit linked.setup a.controller.desk (ready_port setups a h q linked found).setup (begins a linked) source message small fits (fits_there setups a h q linked found);
      })

  pub done_ready : (a : Acted) (q : PortNo) (request : Request) → Readies a (at_port a q (λ setup desk w. done setup w request))
  done_ready a q request = ruled_ready a q (λ setup desk w. done setup w request)
      (λ linked found. (let same = goes_gave a.numbers.instances linked.setup a.controller.desk (begins a linked) (done linked.setup (begins a linked) request) (done_goes linked.setup a.controller.desk (begins a linked) request (λ t. tt)) refl in omega (arith, same)))
      (λ linked found h. record {
        worked = by_rule (done linked.setup (begins a linked) request) (done_goes linked.setup a.controller.desk (begins a linked) request (λ t. tt));
        unspent = done_unspent linked.setup (begins a linked) request (λ live. (ready_port setups a h q linked found).unspent);
        asked = goes_asked linked.setup a.controller.desk (begins a linked) (done linked.setup (begins a linked) request) (done_goes linked.setup a.controller.desk (begins a linked) request (λ t. tt)) (begun_asked a linked);
        fits = done_fit linked.setup (ready_port setups a h q linked found).setup (begins a linked) request (fits_there setups a h q linked found);
      })

  pub used_ready : (a : Acted) (q : PortNo) (number : ℕ) → Readies a (at_port a q (λ setup desk w. used w number))
  used_ready a q number = ruled_ready a q (λ setup desk w. used w number)
      (λ linked found. (let same = goes_gave a.numbers.instances linked.setup a.controller.desk (begins a linked) (used (begins a linked) number) (used_goes linked.setup a.controller.desk (begins a linked) number) refl in omega (arith, same)))
      (λ linked found h. record {
        worked = by_rule (used (begins a linked) number) (used_goes linked.setup a.controller.desk (begins a linked) number);
        unspent = used_unspent (begins a linked) number (λ live. (ready_port setups a h q linked found).unspent);
        asked = goes_asked linked.setup a.controller.desk (begins a linked) (used (begins a linked) number) (used_goes linked.setup a.controller.desk (begins a linked) number) (begun_asked a linked);
        fits = used_fit (begins a linked) number (fits_there setups a h q linked found);
      })

  -- a tick of all ports
  pub ticks_ports_ready : (a : Acted) → Readies a (ticks_ports a)
  ticks_ports_ready a = readies_fold ticks_port ticks_ready (ports_of a.controller) a
