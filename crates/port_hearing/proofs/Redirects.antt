-- What a port makes of a REDIRECT, by what its table answers

use Rattle.std.proofs.Common.{◌≡◌, ℕ, Bool, true, false, List, [], ◌∷◌, ◌++◌, length, refl, Option, None, Some, Ok, Err, if◌then◌else◌}
use Rattle.std.specs.Prelude.{not, nat_lt, ◌&&◌, fold}
use Rattle.net_types.specs.declared.channel.Channel.{Channel}
use Rattle.ipv4_packet.specs.declared.flow.FlowId.{FlowId}
use Rattle.ipv4_packet.specs.Parts.{same_flow}
use Rattle.gsmp_wire.specs.declared.request.Request.TheVariants.{AddBranch}
use Rattle.keyed_lists.specs.Keyed.{at}
use Rattle.port_model.specs.Desk.{Desk, most_asked}
use Rattle.grant_table.specs.Table.{told}
use Rattle.grant_table.specs.declared.table.Accepted.TheVariants as accepts
use Rattle.grant_table.specs.declared.table.AcceptFault.TheVariants as faults
use Rattle.port_model.specs.declared.action.Action.{Action}
use Rattle.port_model.specs.declared.action.Action.TheVariants.{Ask}
use Rattle.port_model.specs.Setup.{Setup, control_end, is_in_range, label_end}
use Rattle.port_model.specs.Grants.{Acceptance, New, Refreshed, OutOfRange, Taken, IsLeaving, GrantsFull, Grant, acceptance_beside, acceptance_of, grant_label, is_leaving, most_grants}
use Rattle.port_model.specs.Port.{Port, Work, desk_with}
use Rattle.port_model.specs.Saying.{error, label_range, says}
use Rattle.port_model.specs.Redirection.{redirected}
use Rattle.port_state.specs.Parts.{accepted, is_new}
use Rattle.port_saying.specs.Rules.{begun}

-- a new grant is of the label
beside_new : (grants : List Grant) (label : ℕ) (flow : FlowId) (o : Option Grant) → told (acceptance_beside grants label flow o) ≡ Ok accepts.New → acceptance_beside grants label flow o ≡ New label
beside_new grants label flow None h = by (nat_lt (length grants) most_grants) h
  where
    by : (b : Bool) → told (if b then New label else GrantsFull) ≡ Ok accepts.New → (if b then New label else GrantsFull) ≡ New label
    by true h = refl
    by false h = absurd (cc h)
beside_new grants label flow (Some grant) h = by (not (same_flow grant.flow flow)) (is_leaving grant.state) h
  where
    by : (b c : Bool) → told (if b then Taken else (if c then IsLeaving else Refreshed grant)) ≡ Ok accepts.New → (if b then Taken else (if c then IsLeaving else Refreshed grant)) ≡ New label
    by true c h = absurd (cc h)
    by false true h = absurd (cc h)
    by false false h = absurd (cc h)

pub told_new : (setup : Setup) (grants : List Grant) (flow : FlowId) (label : ℕ) → told (acceptance_of setup grants flow (Some label)) ≡ Ok accepts.New → acceptance_of setup grants flow (Some label) ≡ New label
told_new setup grants flow label h = by (is_in_range setup label) h
  where
    by : (b : Bool) → told (if b then acceptance_beside grants label flow (at grant_label label grants) else OutOfRange) ≡ Ok accepts.New
        → (if b then acceptance_beside grants label flow (at grant_label label grants) else OutOfRange) ≡ New label
    by true h = beside_new grants label flow (at grant_label label grants) h
    by false h = absurd (cc h)

module _ (setup : Setup) (desk : Desk) (port : Port) (actions : List Action) (n : ℕ) (channel : Channel) (flow : FlowId) (lifetime : ℕ) where
  abbrev redirects : Acceptance → Work
  redirects a = redirected setup desk (begun port actions n) channel flow lifetime a

  -- at the limit of requests
  pub held_back : (a : Acceptance) → (is_new a && not (nat_lt (length (fold desk_with desk actions).standing) most_asked)) ≡ true → redirects a ≡ begun port actions n
  held_back (New label) h = by (nat_lt (length (fold desk_with desk actions).standing) most_asked) refl h
    where
      by : (b : Bool) → nat_lt (length (fold desk_with desk actions).standing) most_asked ≡ b → not b ≡ true → redirects (New label) ≡ begun port actions n
      by true e h = absurd (cc h)
      by false e h = rw e refl
  held_back (Refreshed grant) h = absurd (cc h)
  held_back OutOfRange h = absurd (cc h)
  held_back Taken h = absurd (cc h)
  held_back IsLeaving h = absurd (cc h)
  held_back GrantsFull h = absurd (cc h)

  -- below it
  pub grants_new : (label : ℕ) (a : Acceptance) → a ≡ New label → (is_new a && not (nat_lt (length (fold desk_with desk actions).standing) most_asked)) ≡ false
      → redirects a ≡ begun (accepted port flow lifetime a) (actions ++ Ask (AddBranch (control_end setup.port label) (label_end setup.port label)) false ∷ []) n
  grants_new label a is h = rw is (below (nat_lt (length (fold desk_with desk actions).standing) most_asked) refl (rw is at h))
    where
      below : (b : Bool) → nat_lt (length (fold desk_with desk actions).standing) most_asked ≡ b → not b ≡ false
          → redirects (New label) ≡ begun (accepted port flow lifetime (New label)) (actions ++ Ask (AddBranch (control_end setup.port label) (label_end setup.port label)) false ∷ []) n
      below true e h = rw e refl
      below false e h = absurd (cc h)

  pub grants_again : (a : Acceptance) → told a ≡ Ok accepts.Refreshed → redirects a ≡ begun (accepted port flow lifetime a) actions n
  grants_again (New label) h = absurd (cc h)
  grants_again (Refreshed grant) h = refl
  grants_again OutOfRange h = absurd (cc h)
  grants_again Taken h = absurd (cc h)
  grants_again IsLeaving h = absurd (cc h)
  grants_again GrantsFull h = absurd (cc h)

  pub refuses_range : (a : Acceptance) → told a ≡ Err faults.OutOfRange → redirects a ≡ says (begun (accepted port flow lifetime a) actions n) (label_range setup)
  refuses_range (New label) h = absurd (cc h)
  refuses_range (Refreshed grant) h = absurd (cc h)
  refuses_range OutOfRange h = refl
  refuses_range Taken h = absurd (cc h)
  refuses_range IsLeaving h = absurd (cc h)
  refuses_range GrantsFull h = absurd (cc h)

  pub refuses_taken : (a : Acceptance) → told a ≡ Err faults.Taken → redirects a ≡ says (begun (accepted port flow lifetime a) actions n) (error 1 channel)
  refuses_taken (New label) h = absurd (cc h)
  refuses_taken (Refreshed grant) h = absurd (cc h)
  refuses_taken OutOfRange h = absurd (cc h)
  refuses_taken Taken h = refl
  refuses_taken IsLeaving h = absurd (cc h)
  refuses_taken GrantsFull h = absurd (cc h)

  pub refuses_leaving : (a : Acceptance) → told a ≡ Err faults.Leaving → redirects a ≡ says (begun (accepted port flow lifetime a) actions n) (error 2 channel)
  refuses_leaving (New label) h = absurd (cc h)
  refuses_leaving (Refreshed grant) h = absurd (cc h)
  refuses_leaving OutOfRange h = absurd (cc h)
  refuses_leaving Taken h = absurd (cc h)
  refuses_leaving IsLeaving h = refl
  refuses_leaving GrantsFull h = absurd (cc h)

  pub refuses_full : (a : Acceptance) → told a ≡ Err faults.GrantsFull → redirects a ≡ says (begun (accepted port flow lifetime a) actions n) (error 3 channel)
  refuses_full (New label) h = absurd (cc h)
  refuses_full (Refreshed grant) h = absurd (cc h)
  refuses_full OutOfRange h = absurd (cc h)
  refuses_full Taken h = absurd (cc h)
  refuses_full IsLeaving h = absurd (cc h)
  refuses_full GrantsFull h = refl
