-- a request that isn't refused and has a shape keeps the shapes of the branches

use Rattle.std.proofs.Common.{◌≡◌, ℕ, ◌*◌, Bool, true, false, true≢false, cond, List, [], ◌∷◌, Option, None, Some, refl, sym, ◌∙◌, ap, ap₂, subst, arith, inl, inr, if◌then◌else◌}
use Rattle.std.specs.Prelude.{◌&&◌, ◌||◌, ◌==◌, ◌-◌, not, nat_le, nat_lt, find}
use Rattle.std.specs.List.{list_all}
use Rattle.std.specs.Option.{option_map}
use Rattle.std.specs.FinMap.{get, insert, remove}
use Rattle.std.proofs.lemmas.Bool.Decides.{nat_tests}
use Rattle.law_causes.specs.world_model.Words.{End, PortNo, Request, is_link_channel, is_channel_of, is_connectable, Branches, same_end, new_branch, numbers_of, Changed, added_by, added, moved_by, moved_to, ended_by, all_ended, inputs_on, branches_after, named_ends, applies, failure_of, Setup, home_of, default_end}
use Rattle.law_causes.specs.world_model.crossbar_model.declared.branch.Branch.{Branch}
use Rattle.law_causes.specs.world_model.switch_model.declared.port.PortState.{PortState}
use Rattle.law_causes.specs.world_model.switch_model.declared.request.Asked.{Asked}
use Rattle.law_causes.specs.world_model.gsmp_wire.declared.failure.Failure.TheVariants.{NoPort, BadSession, PortDown, OutOfRange, Busy, NoConnection, SessionsSpent}
use Rattle.law_causes.specs.world_model.Requests.{branch_ended}
use Rattle.law_world_views.specs.law_port_facts.Port.{IsDefaultEnd, IsShaped, asks_ports, empties_control, empties_port, opens_input, opens_output, leads_label, leads_grant, joins_label, parts_label, frees_label}
use Rattle.law_world_views.specs.Between.{IsPortEnd, IsShapedBranch, default, label, home, out, joined}
use Rattle.law_causes.proofs.Maps.{same_input, insert_here, insert_away, remove_here, remove_away}
use Rattle.law_branch_shapes.specs.Shapes.{AreShaped}

module _ (setups : List Setup) where
  -- *A branch is put*, one ends, several end
  pub shaped_put : (m : Branches) (input : End) (b : Branch) → IsShapedBranch setups input b.output → AreShaped setups m → AreShaped setups (insert m input b)
  shaped_put m input b shape h e output found = elim (same_input e input) [
    | inl same ↦ (let both : Some b.output ≡ Some output = sym (ap (option_map (λ (x : Branch). x.output)) (ap (get (insert m input b)) same ∙ insert_here m input b)) ∙ found in
        let at : b.output ≡ output = cc both in
        subst (λ (x : End). IsShapedBranch setups x output) (sym same) (subst (IsShapedBranch setups input) at shape))
    | inr d ↦ h e output (sym (ap (option_map (λ (x : Branch). x.output)) (insert_away m input e b d)) ∙ found)
  ]

  removed : (m : Branches) (input : End) → AreShaped setups m → AreShaped setups (remove m input)
  removed m input h e output found = elim (same_input e input) [
    | inl same ↦ absurd (cc (sym (ap (option_map (λ (x : Branch). x.output)) (ap (get (remove m input)) same ∙ remove_here m input)) ∙ found))
    | inr d ↦ h e output (sym (ap (option_map (λ (x : Branch). x.output)) (remove_away m input e d)) ∙ found)
  ]

  ended_one : (c : Changed) (input : End) → AreShaped setups c.branches → AreShaped setups (branch_ended c input).branches
  ended_one c input h = by (get c.branches input)
    where
      by : (o : Option Branch) → AreShaped setups (ended_by c input o).branches
      by None = h
      by (Some b) = removed c.branches input h

  pub ended_all : (inputs : List End) (c : Changed) → AreShaped setups c.branches → AreShaped setups (all_ended c inputs).branches
  ended_all [] c h = h
  ended_all (input ∷ inputs) c h = ended_all inputs (branch_ended c input) (ended_one c input h)

  added_one : (m : Branches) (input output : End) → IsShapedBranch setups input output → AreShaped setups m → AreShaped setups (added m input output)
  added_one m input output shape h = by (get m input)
    where
      by : (o : Option Branch) → AreShaped setups (added_by m input output o)
      by None = shaped_put m input (new_branch output) shape h
      by (Some b) = h

  moved_one : (c : Changed) (input to : End) → IsShapedBranch setups input to → AreShaped setups c.branches → AreShaped setups (moved_to c input to).branches
  moved_one c input to shape h = by (get c.branches input)
    where
      by_same : (t : Bool) → AreShaped setups (if t then c.branches else insert c.branches input (new_branch to))
      by_same true = h
      by_same false = shaped_put c.branches input (new_branch to) shape h

      by : (o : Option Branch) → AreShaped setups (moved_by c input to o).branches
      by None = h
      by (Some b) = by_same (same_end b.output to)

-- *The default channel of port 0* is GSMP's, and no switch connects it
zero_channel : (a z b c d : Bool) → z ≡ true → (a ≡ true → b ≡ false) → (a && (if z then b && c else d)) ≡ false
zero_channel false z b c d e f = refl
zero_channel true true b c d e f = ap (λ (t : Bool). t && c) (f refl)
zero_channel true false b c d e f = absurd (cc e)

never_channel : (p : PortNo) (vpis : ℕ) (e : End) → e.port.0 ≡ 0 → e.channel.vpi ≡ 0 → is_channel_of p vpis e ≡ false
never_channel p vpis e port vpi = zero_channel (nat_lt 0 p.0) (e.port.0 == 0) (nat_le (16 * p.0) e.channel.vpi) (is_link_channel vpis (record e.channel { vpi = e.channel.vpi - 16 * p.0 })) (e.port.0 == p.0 && is_link_channel vpis e.channel)
    (is_zero e.port.0 port) (λ some. too_low p.0 e.channel.vpi some vpi)
  where
    is_zero : (n : ℕ) → n ≡ 0 → (n == 0) ≡ true
    is_zero n z = grind (arith, nat_tests)

    too_low : (p v : ℕ) → nat_lt 0 p ≡ true → v ≡ 0 → nat_le (16 * p) v ≡ false
    too_low p v some none = grind (arith, nat_tests)

never_connectable : (ports : List PortNo) (vpis : ℕ) (e : End) → e.port.0 ≡ 0 → e.channel.vpi ≡ 0 → is_connectable ports vpis e ≡ false
never_connectable [] vpis e port vpi = refl
never_connectable (p ∷ ports) vpis e port vpi = ap₂ (λ (a b : Bool). a || b) (never_channel p vpis e port vpi) (never_connectable ports vpis e port vpi)

-- *No failure*: each channel that is named can be connected
none_first : {A : Type 0} (test : A → Bool) (x : A) (xs : List A) → find test (x ∷ xs) ≡ None → (test x ≡ false) × (find test xs ≡ None)
none_first test x xs e = by (test x) refl e
  where
    by : (t : Bool) → test x ≡ t → cond t (Some x) (find test xs) ≡ None → (test x ≡ false) × (find test xs ≡ None)
    by true t k = absurd (cc k)
    by false t k = (t, k)

not_false : (b : Bool) → not b ≡ false → b ≡ true
not_false true e = refl
not_false false e = absurd (cc e)

both_true : (a b : Bool) → (a && b) ≡ true → (a ≡ true) × (b ≡ true)
both_true true true e = (refl, refl)
both_true true false e = absurd (cc e)
both_true false b e = absurd (cc e)

module _ (setups : List Setup) (ports : List PortState) (vpis : ℕ) (m : Branches) (asked : Asked) (fine : failure_of ports vpis m asked ≡ None) where
  pub all_connect : list_all (is_connectable (numbers_of ports) vpis) (named_ends asked.request) ≡ true
  all_connect =
      let first = none_first (applies ports vpis m asked) NoPort (BadSession ∷ PortDown ∷ OutOfRange ∷ Busy ∷ NoConnection ∷ SessionsSpent ∷ []) fine in
      let second = none_first (applies ports vpis m asked) BadSession (PortDown ∷ OutOfRange ∷ Busy ∷ NoConnection ∷ SessionsSpent ∷ []) first.1 in
      let third = none_first (applies ports vpis m asked) PortDown (OutOfRange ∷ Busy ∷ NoConnection ∷ SessionsSpent ∷ []) second.1 in
      let fourth = none_first (applies ports vpis m asked) OutOfRange (Busy ∷ NoConnection ∷ SessionsSpent ∷ []) third.1 in
      not_false (list_all (is_connectable (numbers_of ports) vpis) (named_ends asked.request)) fourth.0

  -- the default channel of a port that is linked
  linked_end : (end : End) → IsDefaultEnd setups end → is_connectable (numbers_of ports) vpis end ≡ true → IsPortEnd setups end
  linked_end end is connects = elim is.port [
    | inl zero ↦ absurd (true≢false (sym connects ∙ never_connectable (numbers_of ports) vpis end zero is.vpi))
    | inr linked ↦ subst (IsPortEnd setups) (sym same) (default end.port linked)
  ]
    where
      same : end ≡ default_end end.port
      same = ap₂ (λ (v u : ℕ). record { port = end.port; channel = record { vpi = v; vci = u } }) is.vpi is.vci

  -- *Each shape*
  request_shaped : (request : Request) → asked.request ≡ request → IsShaped setups request → (c : Changed) → AreShaped setups c.branches → AreShaped setups (branches_after c request).branches
  request_shaped _ is asks_ports c h = h
  request_shaped _ is (empties_control port none) c h = ended_all setups (inputs_on c.branches port) c h
  request_shaped _ is (empties_port port linked) c h = ended_all setups (inputs_on c.branches port) c h
  request_shaped _ is (opens_input end e) c h =
      added_one setups c.branches end (home_of end) (home end (linked_end end e (both_true (is_connectable (numbers_of ports) vpis end) _ (ap (λ (r : Request). list_all (is_connectable (numbers_of ports) vpis) (named_ends r)) (sym is) ∙ all_connect)).0)) h
  request_shaped _ is (opens_output end e) c h =
      let both = both_true (is_connectable (numbers_of ports) vpis (home_of end)) _ (ap (λ (r : Request). list_all (is_connectable (numbers_of ports) vpis) (named_ends r)) (sym is) ∙ all_connect) in
      added_one setups c.branches (home_of end) end (out end (linked_end end e (both_true (is_connectable (numbers_of ports) vpis end) _ both.1).0)) h
  request_shaped _ is (leads_label end e) c h = added_one setups c.branches end (home_of end) (home end (label end e)) h
  request_shaped _ is (leads_grant end e) c h = added_one setups c.branches (home_of end) end (out end (label end e)) h
  request_shaped _ is (joins_label input output i o) c h = moved_one setups c input output (joined input output i o) h
  request_shaped _ is (parts_label input output i o) c h = moved_one setups c input (home_of input) (home input (label input i)) h
  request_shaped _ is (frees_label end e) c h = ended_all setups (end ∷ []) c h

  pub asked_shaped : IsShaped setups asked.request → (c : Changed) → AreShaped setups c.branches → AreShaped setups (branches_after c asked.request).branches
  asked_shaped shape c h = request_shaped asked.request refl shape c h
