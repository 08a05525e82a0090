-- A tick whose rules ask for a reset, and a call that has done a rule

use Rattle.std.proofs.Common.{◌≡◌, ℕ, List, sym, ap, ◌∙◌, Err, Some}
use Rattle.std.specs.Prelude.{fold, map}
use Rattle.adjacency_table.specs.Side.{ticked}
use Rattle.port_model.specs.Desk.{Desk}
use Rattle.port_model.specs.declared.action.Action.{Action}
use Rattle.port_model.specs.Setup.{Setup}
use Rattle.port_model.specs.Labels.{Label, LabelState, label_number}
use Rattle.port_model.specs.Grants.{grant_label}
use Rattle.port_model.specs.Port.{Port, Session, Work, label_at, labels_of}
use Rattle.port_model.specs.Adjacency.{steps}
use Rattle.port_model.specs.Ticks.{ages, moves_windows, nudges, ticks, ticks_found, ticks_in, ticks_label, ticks_next, ticks_session}
use Rattle.port_state.specs.Engine.{Engine}
use Rattle.port_state.specs.Parts.{numbers_of}
use Rattle.port_saying.specs.Rules.{begun, stopped, Ends}
use Rattle.port_saying.specs.declared.stop.Stop.{Stop}
use Rattle.port_saying.specs.declared.stop.Stop.TheVariants as stop
use Rattle.redirect_state.specs.Calls.{HasDone}

-- what follows a rule that asked for a reset
pub after_stop : (A B : Type 0) (s : Stop) (port : Port) (actions : List Action) (n : ℕ) (f : Work → Work) (w : Work) → f (stopped port actions n) ≡ stopped port actions n
    → Ends {A = A} (Err s) port actions n w → Ends {A = B} (Err s) port actions n (f w)
after_stop A B stop.Reset port actions n f w still h = ap f h ∙ still
after_stop A B (stop.OutOfMemory error) port actions n f w still h = tt

pub has_done : {P : Type 0} (old new : Engine P) (actions : List Action) (n : ℕ) (w : Work) → new.fixed ≡ old.fixed → w ≡ begun new.port actions n → HasDone old new actions n w
has_done old new actions n w fixed is = record {
  fixed = fixed;
  port = sym (ap (λ (v : Work). v.port) is);
  actions = sym (ap (λ (v : Work). v.actions) is);
  instances = sym (ap (λ (v : Work). v.instances) is);
}

-- a tick, once its adjacency has gone on and its grants have aged
pub ticks_through : (setup : Setup) (desk : Desk) (w : Work) (port next : Port) (actions more : List Action) (n : ℕ) (s : Session)
    → steps setup w (ticked w.port.adjacency) ≡ begun port actions n → port.session ≡ Some s
    → fold (ages setup) (begun port actions n) (map grant_label port.grants) ≡ begun next more n
    → ticks setup desk w ≡ moves_windows setup (nudges setup (fold (ticks_label setup desk) (begun next more n) (numbers_of next)))
ticks_through setup desk w port next actions more n s stepped is aged =
    ap (ticks_next setup desk) stepped
    ∙ ap (ticks_session setup desk (begun port actions n)) is
    ∙ ap (λ (v : Work). moves_windows setup (nudges setup (fold (ticks_label setup desk) v (map label_number (labels_of v.port))))) aged

-- a label at a tick, by its state
pub ticks_at : (setup : Setup) (desk : Desk) (port : Port) (actions : List Action) (n number : ℕ) (label : Label) (state : LabelState) → label_at port number ≡ Some label → label.state ≡ state
    → ticks_label setup desk (begun port actions n) number ≡ ticks_in setup desk (begun port actions n) label state
ticks_at setup desk port actions n number label state found is =
    ap (ticks_found setup desk (begun port actions n)) found ∙ ap (ticks_in setup desk (begun port actions n) label) is

pub has_done_so : {P : Type 0} (old new : Engine P) (actions : List Action) (n : ℕ) (w : Work) → new.fixed ≡ old.fixed
    → (w.port ≡ new.port) × (w.actions ≡ actions) × (w.instances ≡ n) → HasDone old new actions n w
has_done_so old new actions n w fixed is = record {
  fixed = fixed;
  port = sym is.0;
  actions = sym is.1;
  instances = sym is.2;
}
