-- Labels and grants that are found in a port.

use Rattle.std.proofs.Common.{◌≡◌, ℕ, suc, zero, Bool, true, false, cond, nat_eq, List, [], ◌∷◌, refl, sym, Option, None, Some, option_map, IfSome, IsTrue, is_ok, slice_get, subst}
use Rattle.std.proofs.lemmas.Bool.{eqb-true}
use Rattle.net_types.specs.Label.{is_label_number}
use Rattle.keyed_lists.specs.Keyed.{at, put}
use Rattle.ipv4_packet.specs.declared.flow.FlowId.{FlowId}
use Rattle.grant_table.specs.Table.{AreOfLabels, Table, acceptance_in, told, view_of}
use Rattle.grant_table.specs.Table as table
use Rattle.grant_table.specs.declared.table.GrantView.{GrantView}
use Rattle.port_model.specs.Grants.{Acceptance, New, Refreshed, OutOfRange, Taken, IsLeaving, GrantsFull, Grant, acceptance_of, grant_label}
use Rattle.port_model.specs.Port.{Port}
use Rattle.port_model.specs.Setup.{Setup}
use Rattle.port_model.specs.Labels.{Label, label_number}
use Rattle.port_session.specs.Session.{Opened, changed, with_labels}
use Rattle.port_state.specs.Parts.{accepted}

-- a change of a label that is held
pub changed_there : (number : ℕ) (change : Label → Label) (labels : List Label) (label : Label) → at label_number number labels ≡ Some label → changed number change labels ≡ put label_number (change label) labels
changed_there number change labels label there = rw there refl

-- the grant of a label is of a label
pub grant_of_label : (grants : List Grant) → AreOfLabels grants → (label : ℕ) (grant : Grant) → at grant_label label grants ≡ Some grant → IsTrue (is_label_number label)
grant_of_label [] all label grant h = absurd (cc h)
grant_of_label (g ∷ grants) all label grant h = by (nat_eq g.label label) refl (λ w. grant_of_label grants all.1 label grant w) h where
  by : (b : Bool) → nat_eq g.label label ≡ b → (at grant_label label grants ≡ Some grant → IsTrue (is_label_number label)) → cond b (Some g) (at grant_label label grants) ≡ Some grant → IsTrue (is_label_number label)
  by true e rest w = rw (← eqb-true g.label label e) all.0
  by false e rest w = rest w

pub grant_at_place : (grants : List Grant) → AreOfLabels grants → (place : ℕ) (grant : Grant) → slice_get grants place ≡ Some grant → IsTrue (is_label_number grant.label)
grant_at_place [] all zero grant h = absurd (cc h)
grant_at_place [] all (suc place) grant h = absurd (cc h)
grant_at_place (g ∷ grants) all zero grant h = let same : g ≡ grant = cc h in rw (← same) all.0
grant_at_place (g ∷ grants) all (suc place) grant h = grant_at_place grants all.1 place grant h

pub read_label : (grants : List Grant) → AreOfLabels grants → (label : ℕ) (view : Option GrantView) → view ≡ option_map view_of (at grant_label label grants) → IfSome view (λ v. IsTrue (is_label_number label))
read_label grants all label view e = subst (λ (v : Option GrantView). IfSome v (λ w. IsTrue (is_label_number label))) (sym e) (by (at grant_label label grants) refl) where
  by : (g : Option Grant) → at grant_label label grants ≡ g → IfSome (option_map view_of g) (λ w. IsTrue (is_label_number label))
  by None h = tt
  by (Some grant) h = grant_of_label grants all label grant h

-- what holds of the value that there is
pub of_some : {A : Type 0} (o : Option A) (x : A) (P : A → Type 0) → o ≡ Some x → IfSome o P → P x
of_some None x P e h = absurd (cc e)
of_some (Some y) x P e h = let same : y ≡ x = cc e in subst P same h

-- a label that is taken leaves the rest of the session
pub record IsSameRange (old new : Opened) : Type 0 where
  pub least : new.least ≡ old.least
  pub greatest : new.greatest ≡ old.greatest
  pub window : new.window ≡ old.window
  pub instance : new.instance ≡ old.instance

pub wired_range : (old new : Opened) (number : Option ℕ) (labels : ℕ → List Label) → (number ≡ None → new ≡ old) → ((n : ℕ) → number ≡ Some n → new ≡ with_labels old (labels n)) → IsSameRange old new
wired_range old new None labels none some = rw (none refl) (record { least = refl; greatest = refl; window = refl; instance = refl })
wired_range old new (Some n) labels none some = rw (some n refl) (record { least = refl; greatest = refl; window = refl; instance = refl })

-- *Acceptance*

pub accepted_range : (t : Table) (flow : FlowId) (lifetime : ℕ) (a : Acceptance) → ((table.accepted t flow lifetime a).least ≡ t.least) × ((table.accepted t flow lifetime a).greatest ≡ t.greatest)
accepted_range t flow lifetime (New label) = (refl, refl)
accepted_range t flow lifetime (Refreshed grant) = (refl, refl)
accepted_range t flow lifetime OutOfRange = (refl, refl)
accepted_range t flow lifetime Taken = (refl, refl)
accepted_range t flow lifetime IsLeaving = (refl, refl)
accepted_range t flow lifetime GrantsFull = (refl, refl)

pub refused_table : (t : Table) (flow : FlowId) (lifetime : ℕ) (a : Acceptance) → is_ok (told a) ≡ false → table.accepted t flow lifetime a ≡ t
refused_table t flow lifetime (New label) h = absurd (cc h)
refused_table t flow lifetime (Refreshed grant) h = absurd (cc h)
refused_table t flow lifetime OutOfRange h = refl
refused_table t flow lifetime Taken h = refl
refused_table t flow lifetime IsLeaving h = refl
refused_table t flow lifetime GrantsFull h = refl

pub refused_port : (port : Port) (flow : FlowId) (lifetime : ℕ) (a : Acceptance) → is_ok (told a) ≡ false → accepted port flow lifetime a ≡ port
refused_port port flow lifetime (New label) h = absurd (cc h)
refused_port port flow lifetime (Refreshed grant) h = absurd (cc h)
refused_port port flow lifetime OutOfRange h = refl
refused_port port flow lifetime Taken h = refl
refused_port port flow lifetime IsLeaving h = refl
refused_port port flow lifetime GrantsFull h = refl

pub same_acceptance : (t : Table) (setup : Setup) (flow : FlowId) (label : ℕ) → t.least ≡ setup.least → t.greatest ≡ setup.greatest → acceptance_in t label flow ≡ acceptance_of setup t.grants flow (Some label)
same_acceptance t setup flow label least greatest = rw (least, greatest) refl
