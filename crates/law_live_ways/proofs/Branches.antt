-- branches change by what keeps ways open: a default channel that leads out or home alone goes on so

use Rattle.std.proofs.Common.{◌≡◌, ◌≢◌, ◌+◌, ◌*◌, ◌≤◌, ◌&&◌, Bool, true, false, true≢false, List, Option, None, Some, refl, sym, ◌∙◌, ap, subst, arith, inl, inr, if◌then◌else◌}
use Rattle.std.specs.Option.{option_map}
use Rattle.std.specs.FinMap.{get, insert, remove}
use Rattle.world_model.specs.Words.{PortNo, End, is_label_channel, is_label_number, Request, AddBranch, Branches, same_end, new_branch, Changed, added_by, added, moved_by, moved_to, ended_by, branches_after, Setup, home_of, default_end, default_home}
use Rattle.world_model.specs.Requests.{branch_ended}
use Rattle.world_model.specs.crossbar_model.Crossbar.{output_of}
use Rattle.world_model.specs.crossbar_model.declared.branch.Branch.{Branch}
use Rattle.law_branch_shapes.proofs.law_causes.Maps.{same_input, insert_here, insert_away, remove_here, remove_away}
use Rattle.law_run_facts.specs.law_port_facts.Port as shapes
use Rattle.law_run_facts.specs.law_port_facts.Port.{IsDefaultEnd, IsLabelEnd, IsShaped}
use Rattle.law_run_facts.proofs.law_controller_views.Sends.{label_vci}
use Rattle.law_live_ways.specs.Requests.{IsOfLabel, KeepsWays, asks_ports, opens_input, opens_output, leads_label, leads_grant, joins_label, parts_label, frees_label, ShapesKeepWays, LeadsThere}

abbrev output : Option Branch → Option End
output o = option_map (λ (b : Branch). b.output) o

one_end : (x y : End) → Some x ≡ Some y → x ≡ y
one_end x y e = cc

none_leads : (x : End) → ◌≡◌ {A = Option End} None (Some x) → ⊥
none_leads x e = cc

-- *One input* leads to one output alone
module _ (m : Branches) (i o : End) (h : LeadsThere m i o) where
  -- a branch of another input is put, and leads elsewhere
  put_away : (k : End) (b : Branch) → k ≢ i → b.output ≢ o → LeadsThere (insert m k b) i o
  put_away k b apart elsewhere = record {
    leads = ap output (insert_away m k i b (λ same. apart (sym same))) ∙ h.leads;
    alone = λ other e. elim (same_input other k) [
      | inl same ↦ absurd (elsewhere (one_end b.output o (sym (ap (λ (x : End). output_of (insert m k b) x) same ∙ ap output (insert_here m k b)) ∙ e)))
      | inr d ↦ h.alone other (sym (ap output (insert_away m k other b d)) ∙ e)
    ];
  }

  -- one ends
  taken_away : (k : End) → k ≢ i → LeadsThere (remove m k) i o
  taken_away k apart = record {
    leads = ap output (remove_away m k i (λ same. apart (sym same))) ∙ h.leads;
    alone = λ other e. elim (same_input other k) [
      | inl same ↦ absurd (none_leads o (sym (ap (λ (x : End). output_of (remove m k) x) same ∙ ap output (remove_here m k)) ∙ e))
      | inr d ↦ h.alone other (sym (ap output (remove_away m k other d)) ∙ e)
    ];
  }

  -- one leads where it led
  pub led_again : (k : End) (was b : Branch) → get m k ≡ Some was → b.output ≡ was.output → LeadsThere (insert m k b) i o
  led_again k was b found same = record { leads = everywhere i ∙ h.leads; alone = λ other e. h.alone other (sym (everywhere other) ∙ e) }
    where
      everywhere : (x : End) → output_of (insert m k b) x ≡ output_of m x
      everywhere x = elim (same_input x k) [
        | inl is ↦ ap (λ (y : End). output_of (insert m k b) y) is ∙ (ap output (insert_here m k b) ∙ (ap Some same ∙ sym (ap (λ (y : End). output_of m y) is ∙ ap output found)))
        | inr d ↦ ap output (insert_away m k x b d)
      ]

  -- *Add Branch* of an input that has a branch keeps that
  add_kept : (k to : End) → (to ≡ o → k ≡ i) → LeadsThere (added m k to) i o
  add_kept k to own = by (get m k) refl
    where
      by : (found : Option Branch) → get m k ≡ found → LeadsThere (added_by m k to found) i o
      by (Some b) found = h
      by None found = put_away k (new_branch to) apart (λ e. apart (own e))
        where
          apart : k ≢ i
          apart same = absurd (none_leads o (sym (ap output (sym (ap (get m) same) ∙ found)) ∙ h.leads))

  move_kept : (c : Changed) → c.branches ≡ m → (k to : End) → k ≢ i → to ≢ o → LeadsThere (moved_to c k to).branches i o
  move_kept c is k to apart elsewhere = by (get c.branches k)
    where
      kept : LeadsThere c.branches i o
      kept = subst (λ (n : Branches). LeadsThere n i o) (sym is) h

      by_same : (b : Branch) (t : Bool) → LeadsThere (if t then c.branches else insert c.branches k (new_branch to)) i o
      by_same b true = kept
      by_same b false = subst (λ (n : Branches). LeadsThere (insert n k (new_branch to)) i o) (sym is) (put_away k (new_branch to) apart elsewhere)

      by : (found : Option Branch) → LeadsThere (moved_by c k to found).branches i o
      by None = kept
      by (Some b) = by_same b (same_end b.output to)

  end_kept : (c : Changed) → c.branches ≡ m → (k : End) → k ≢ i → LeadsThere (branch_ended c k).branches i o
  end_kept c is k apart = by (get c.branches k)
    where
      by : (found : Option Branch) → LeadsThere (ended_by c k found).branches i o
      by None = subst (λ (n : Branches). LeadsThere n i o) (sym is) h
      by (Some b) = subst (λ (n : Branches). LeadsThere (remove n k) i o) (sym is) (taken_away k apart)

-- *A default channel* isn't that of a label
label_apart : (end x : End) → IsOfLabel end → x.channel.vci ≡ 15 → end ≢ x
label_apart end x label vci same = label_vci end.channel label (ap (λ (e : End). e.channel.vci) same ∙ vci)

home_apart : (end x : End) → IsOfLabel end → x.channel.vci ≡ 15 → home_of end ≢ x
home_apart end x label vci same = label_vci end.channel label (ap (λ (e : End). e.channel.vci) same ∙ vci)

one_port : (p q : PortNo) → p.0 ≡ q.0 → p ≡ q
one_port p q same = λ i. record { 0 = same i }

-- *Each request*, where the input and the output are default channels, and what opens a default channel of the same output is of the
-- same input
module _ (i o : End) (from : i.channel.vci ≡ 15) (to : o.channel.vci ≡ 15)
    (home : (port : PortNo) → default_home port ≡ o → default_end port ≡ i) (out : (port : PortNo) → default_end port ≡ o → default_home port ≡ i) where
  request_kept : (request : Request) → KeepsWays request → (c : Changed) → LeadsThere c.branches i o → LeadsThere (branches_after c request).branches i o
  request_kept _ asks_ports c h = h
  request_kept _ (opens_input port) c h = add_kept c.branches i o h (default_end port) (default_home port) (home port)
  request_kept _ (opens_output port) c h = add_kept c.branches i o h (default_home port) (default_end port) (out port)
  request_kept _ (leads_label end label) c h = add_kept c.branches i o h end (home_of end) (λ e. absurd (home_apart end o label to e))
  request_kept _ (leads_grant end label) c h = add_kept c.branches i o h (home_of end) end (λ e. absurd (label_apart end o label to e))
  request_kept _ (joins_label input output label other) c h = move_kept c.branches i o h c refl input output (label_apart input i label from) (label_apart output o other to)
  request_kept _ (parts_label input output label) c h = move_kept c.branches i o h c refl input (home_of input) (label_apart input i label from) (home_apart input o label to)
  request_kept _ (frees_label end label) c h = end_kept c.branches i o h c refl end (label_apart end i label from)

module _ (port : PortNo) (some : 1 ≤ port.0) where
  pub out_kept : (request : Request) → KeepsWays request → (c : Changed) → LeadsThere c.branches (default_home port) (default_end port) → LeadsThere (branches_after c request).branches (default_home port) (default_end port)
  out_kept = request_kept (default_home port) (default_end port) refl refl
      (λ q e. (let none : 0 ≡ port.0 = ap (λ (x : End). x.port.0) e in absurd (omega (arith, some, none))))
      (λ q e. ap default_home (one_port q port (ap (λ (x : End). x.port.0) e)))

  pub home_kept : (request : Request) → KeepsWays request → (c : Changed) → LeadsThere c.branches (default_end port) (default_home port) → LeadsThere (branches_after c request).branches (default_end port) (default_home port)
  home_kept = request_kept (default_end port) (default_home port) refl refl
      (λ q e. ap default_end (one_port q port (same_vpi q (ap (λ (x : End). x.channel.vpi) e))))
      (λ q e. (let none : 0 ≡ 16 * port.0 + 0 = ap (λ (x : End). x.channel.vpi) e in absurd (omega (arith, some, none))))
    where
      same_vpi : (q : PortNo) → 16 * q.0 + 0 ≡ 16 * port.0 + 0 → q.0 ≡ port.0
      same_vpi q e = omega (arith, e)

-- *All shapes* but Delete All
default_is : (setups : List Setup) (end : End) → IsDefaultEnd setups end → end ≡ default_end end.port
default_is setups end is = λ i. record { port = end.port; channel = record { vpi = is.vpi i; vci = is.vci i } }

front_true : (x y : Bool) → (x && y) ≡ true → x ≡ true
front_true true y e = refl
front_true false y e = absurd (cc e)

of_label : (setups : List Setup) (end : End) → IsLabelEnd setups end → IsOfLabel end
of_label setups end is = ap (λ (e : End). is_label_channel e.channel) is.is ∙ front_true (is_label_number is.number) _ is.in_range

pub shapes_keep_ways : ShapesKeepWays
shapes_keep_ways setups _ shapes.asks_ports none = asks_ports
shapes_keep_ways setups _ (shapes.empties_control port zero) none = absurd (true≢false none)
shapes_keep_ways setups _ (shapes.empties_port port linked) none = absurd (true≢false none)
shapes_keep_ways setups _ (shapes.opens_input end is) none = subst (λ (e : End). KeepsWays (AddBranch e (home_of e))) (sym (default_is setups end is)) (opens_input end.port)
shapes_keep_ways setups _ (shapes.opens_output end is) none = subst (λ (e : End). KeepsWays (AddBranch (home_of e) e)) (sym (default_is setups end is)) (opens_output end.port)
shapes_keep_ways setups _ (shapes.leads_label end is) none = leads_label end (of_label setups end is)
shapes_keep_ways setups _ (shapes.leads_grant end is) none = leads_grant end (of_label setups end is)
shapes_keep_ways setups _ (shapes.joins_label input output is to) none = joins_label input output (of_label setups input is) (of_label setups output to)
shapes_keep_ways setups _ (shapes.parts_label input output is to) none = parts_label input output (of_label setups input is)
shapes_keep_ways setups _ (shapes.frees_label end is) none = frees_label end (of_label setups end is)
