-- what an answer of the switch leaves of an input that it leads home: nothing by which it is led to a label

use Rattle.std.proofs.Common.{◌≡◌, ℕ, ◌<◌, Bool, true, false, List, [], ◌∷◌, Option, None, Some, refl, sym, ◌∙◌, ap, subst, arith, Contains, if◌then◌else◌}
use Rattle.std.specs.Prelude.{◌==◌, ◌&&◌, ◌||◌, not, filter, find}
use Rattle.std.specs.List.{list_any}
use Rattle.std.specs.Option.{option_and_then}
use Rattle.std.proofs.lemmas.Bool.Decides.{nat_tests}
use Rattle.world_model.specs.Words.{End, NodeId, Down, number_of_channel, Cell, is_estab, Request, AddBranch, MoveBranch, DeleteTree, VerifyTree, PortManagement, payload_of, queue_of, Standing, leads_home, head_of, is_of_type, Done, Unknown, Ports, Failed, outcome, answered_with, answered, after_answer, without_request, control_port, Setup, home_of, Grant, Linked, default_channel, same_channel, is_deleting, has_emptied, World, Site, site_at, gsmp_of, gsmp_to_switch, requests_chain_at, answers_chain_at, on_channel, queue_at, Past, leads}
use Rattle.world_model.specs.gsmp_wire.declared.message.Message.{Message}
use Rattle.world_model.specs.gsmp_wire.declared.message.Message.TheVariants as messages
use Rattle.world_model.specs.gsmp_wire.declared.message.BranchKind.TheVariants as kinds
use Rattle.world_model.specs.gsmp_wire.declared.request.Request.TheVariants.{DeleteAll, AllPorts}
use Rattle.law_frame_readings.specs.ordered_lists.Ordered.{Every, InOrder}
use Rattle.world_model.specs.port_model.Grants.{lent_input}
use Rattle.law_frame_readings.specs.law_port_facts.Port.{IsLabelEnd, IsShaped, asks_ports, empties_control, empties_port, opens_input, opens_output, leads_label, leads_grant, joins_label, parts_label, frees_label}
use Rattle.law_frame_readings.proofs.law_port_facts.Found.{find_passes}
use Rattle.law_frame_readings.proofs.law_port_facts.Rules.{and_second}
use Rattle.law_frame_readings.specs.law_controller_facts.Sound.{IsSound, IsEarlier}
use Rattle.law_frame_readings.proofs.law_controller_facts.Laws.{has_ports}
use Rattle.law_fed_worlds.specs.law_controller.Match.{lent_in, lent_at}
use Rattle.law_fed_worlds.specs.law_controller.Order.{IsOrderly, IsMeeting, listing, emptying, IsDeleting}
use Rattle.law_fed_worlds.proofs.law_controller.Parting.{lent_proper}
use Rattle.law_frame_readings.specs.law_branch_line.Words as lines
use Rattle.law_frame_readings.specs.law_branch_line.Line.{Asked, Apart, Unasked, Stands as StandsAsked, Answered}
use Rattle.law_frame_readings.specs.law_branch_line.Law.{IsEmptied, IsEmptyWhenMet}
use Rattle.law_frame_readings.proofs.law_branch_line.Reached.{holds_reached}
use Rattle.law_frame_readings.proofs.law_branch_line.Runs.{always_lem, emptied_lem}
use Rattle.law_run_facts.specs.Chains.{HasOwnChains}
use Rattle.law_frame_readings.specs.law_input_views.Shown.{IsAllPorts}
use Rattle.law_running_worlds.specs.law_input_steps.Part.{IsNumbered}
use Rattle.law_running_worlds.specs.law_input_steps.Asking.{on_input}
use Rattle.law_running_worlds.specs.law_input_steps.Meeting.{met_after, is_none_left}
use Rattle.law_frame_readings.specs.law_world_views.Shown.{acting}
use Rattle.law_frame_readings.specs.law_world_views.Pairs.{Pairs, IsJoin}
use Rattle.law_frame_readings.specs.law_world_views.Between.{IsWorld, IsShapedBranch, home, out, joined, setups_of}
use Rattle.law_pairs.proofs.Opening.{none_in}
use Rattle.law_pairs.proofs.SitePairs.{SitePairs, branch, desk, chain, queue, of_pairs, by_first, in_left, in_right, in_filter, gathered_by, waiting_by}
use Rattle.law_joined_worlds.proofs.Answered.{IsSuccess, success_of, IsBehind, answer_line}
use Rattle.law_joined_worlds.proofs.Free.{IsHomely, home_request, no_branch, no_chain, no_queue, no_other}
use Rattle.law_lasting_joins.proofs.law_quiet_controllers.Beginning.{in_tail}

pub every_in : {A : Type 0} (P : A → Type 0) (xs : List A) (x : A) → Every P xs → Contains xs x → P x
every_in P [] x all h = absurd (omega (arith, h.1))
every_in P (y ∷ xs) x all h = by_first y x xs h (λ e. subst P e all.0) (λ k. every_in P xs x all.1 k)

find_in : {A : Type 0} (test : A → Bool) (xs : List A) (x : A) → find test xs ≡ Some x → Contains xs x
find_in test [] x e = absurd (cc e)
find_in {A} test (y ∷ xs) x e = by (test y) e (λ k. find_in test xs x k)
  where
    by : (b : Bool) → (if b then Some y else find test xs) ≡ Some x → (find test xs ≡ Some x → Contains xs x) → Contains (y ∷ xs) x
    by true k rest = (0, omega arith, (let same : y ≡ x = cc k in same))
    by false k rest = in_tail y x xs (rest k)

-- *Numbers* of what stands rise
not_self : (n m : ℕ) → (n == m) ≡ true → n < m → ⊥
not_self n m same less = absurd (omega (arith, is_equal n m same, less))
  where
    is_equal : (n m : ℕ) → (n == m) ≡ true → n ≡ m
    is_equal n m e = grind (arith, nat_tests)

turned : (n m : ℕ) → (n == m) ≡ true → (m == n) ≡ true
turned n m e = grind (arith, nat_tests)

same_standing : (xs : List Standing) → InOrder IsEarlier xs → (x y : Standing) → Contains xs x → Contains xs y → (x.number == y.number) ≡ true → x ≡ y
same_standing [] order x y h k same = absurd (omega (arith, h.1))
same_standing (s ∷ xs) order x y h k same =
    by_first s x xs h
    (λ e. by_first s y xs k (λ f. sym e ∙ f) (λ l. absurd (not_self s.number y.number (ap (λ (z : Standing). z.number == y.number) e ∙ same) (every_in (IsEarlier s) xs y order.0 l))))
    (λ l. by_first s y xs k (λ f. absurd (not_self s.number x.number (ap (λ (z : Standing). z.number == x.number) f ∙ turned x.number y.number same) (every_in (IsEarlier s) xs x order.0 l)))
    (λ r. same_standing xs order.1 x y l r same))

-- *A request that a success is to* isn't for all ports
asked_all : (r : Request) → IsAllPorts r → r ≡ AllPorts
asked_all (AddBranch i o) h = absurd h
asked_all (MoveBranch i from to) h = absurd h
asked_all (DeleteTree i) h = absurd h
asked_all (VerifyTree i) h = absurd h
asked_all (DeleteAll port) h = absurd h
asked_all (PortManagement port function) h = absurd h
asked_all AllPorts h = refl

never_listed : (standing : List Standing) (m : Message) (s : Standing) → is_of_type m AllPorts ≡ true → answered_with standing m (head_of m) ≡ Done s → ⊥
never_listed standing (messages.Adjacency g) s t e = cc t
never_listed standing (messages.Branch kinds.Add r c n session ip i op o br pr) s t e = cc t
never_listed standing (messages.Branch kinds.Delete r c n session ip i op o br pr) s t e = cc t
never_listed standing (messages.Branch kinds.Verify r c n session ip i op o br pr) s t e = cc t
never_listed standing (messages.Branch kinds.DeleteAll r c n session ip i op o br pr) s t e = cc t
never_listed standing (messages.Move r c n session ip i op o tp t br pr) s u e = cc u
never_listed standing (messages.Port r c n p session f) s t e = cc t
never_listed standing (messages.AllPorts r c n rows) s t e = by (find (λ (x : Standing). x.number == n && is_of_type (messages.AllPorts r c n rows) x.request) standing) e
  where
    by_result : (x : Standing) (b d : Bool) → (if b then Ports x rows else (if d then Failed x c else Unknown)) ≡ Done s → ⊥
    by_result x true d k = cc k
    by_result x false true k = cc k
    by_result x false false k = cc k

    by : (o : Option Standing) → outcome (messages.AllPorts r c n rows) (record { result = r; code = c; number = n }) o ≡ Done s → ⊥
    by None k = cc k
    by (Some x) k = by_result x (r == 3) (r == 4) k

-- *A request of a shape* that leads one label to another is on a label of a link
module _ (setups : List Setup) where
  none_below : (n : ℕ) → 0 < n → n ≡ 0 → ⊥
  none_below n some is = omega (arith, some, is)

  input_is : (i o input output : End) → ◌≡◌ {A = Option (End × End)} (Some (i, o)) (Some (input, output)) → i ≡ input
  input_is i o input output e = (let both : ◌≡◌ {A = End × End} (i, o) (input, output) = cc e in ap (λ (p : End × End). p.0) both)

  output_is : (i o input output : End) → ◌≡◌ {A = Option (End × End)} (Some (i, o)) (Some (input, output)) → o ≡ output
  output_is i o input output e = (let both : ◌≡◌ {A = End × End} (i, o) (input, output) = cc e in ap (λ (p : End × End). p.1) both)

  shaped_input : (request : Request) → IsShaped setups request → (input output : End) → 0 < input.port.0 → 0 < output.port.0 → leads request ≡ Some (input, output) → IsLabelEnd setups input
  shaped_input _ asks_ports input output above on e = absurd (cc e)
  shaped_input _ (empties_control port is) input output above on e = absurd (cc e)
  shaped_input _ (empties_port port is) input output above on e = absurd (cc e)
  shaped_input _ (opens_input end is) input output above on e = absurd (none_below output.port.0 on (ap (λ (x : End). x.port.0) (sym (output_is end (home_of end) input output e))))
  shaped_input _ (opens_output end is) input output above on e = absurd (none_below input.port.0 above (ap (λ (x : End). x.port.0) (sym (input_is (home_of end) end input output e))))
  shaped_input _ (leads_label end is) input output above on e = absurd (none_below output.port.0 on (ap (λ (x : End). x.port.0) (sym (output_is end (home_of end) input output e))))
  shaped_input _ (leads_grant end is) input output above on e = absurd (none_below input.port.0 above (ap (λ (x : End). x.port.0) (sym (input_is (home_of end) end input output e))))
  shaped_input _ (joins_label from to i o) input output above on e = subst (IsLabelEnd setups) (input_is from to input output e) i
  shaped_input _ (parts_label from to i o) input output above on e = absurd (none_below output.port.0 on (ap (λ (x : End). x.port.0) (sym (output_is from (home_of from) input output e))))
  shaped_input _ (frees_label end is) input output above on e = absurd (cc e)

  branch_input : (input output : End) → IsShapedBranch setups input output → 0 < input.port.0 → 0 < output.port.0 → IsLabelEnd setups input
  branch_input _ _ (home end is) above on = absurd (omega (arith, on))
  branch_input _ _ (out end is) above on = absurd (omega (arith, above))
  branch_input _ _ (joined input output i o) above on = i

deleting_leads : (r : Request) (input output : End) → IsDeleting r → leads r ≡ Some (input, output) → ⊥
deleting_leads (AddBranch i o) input output h e = h
deleting_leads (MoveBranch i from to) input output h e = h
deleting_leads (DeleteTree i) input output h e = h
deleting_leads (VerifyTree i) input output h e = h
deleting_leads (DeleteAll port) input output h e = cc e
deleting_leads (PortManagement port function) input output h e = h
deleting_leads AllPorts input output h e = h

is_deleting_so : (r : Request) → IsDeleting r → is_deleting r ≡ true
is_deleting_so (AddBranch i o) h = absurd h
is_deleting_so (MoveBranch i from to) h = absurd h
is_deleting_so (DeleteTree i) h = absurd h
is_deleting_so (VerifyTree i) h = absurd h
is_deleting_so (DeleteAll port) h = refl
is_deleting_so (PortManagement port function) h = absurd h
is_deleting_so AllPorts h = absurd h

-- what is left, while none of it is Delete All and all of it is, is nothing
none_left : (test : Standing → Bool) (xs : List Standing) → Every (λ (x : Standing). IsDeleting x.request) xs
    → list_any (λ (x : Standing). is_deleting x.request) (filter test xs) ≡ false → filter test xs ≡ []
none_left test [] all e = refl
none_left test (x ∷ xs) all e = by (test x) e (λ k. none_left test xs all.1 k)
  where
    by : (b : Bool) → list_any (λ (x : Standing). is_deleting x.request) (if b then x ∷ filter test xs else filter test xs) ≡ false
        → (list_any (λ (x : Standing). is_deleting x.request) (filter test xs) ≡ false → filter test xs ≡ []) → (if b then x ∷ filter test xs else filter test xs) ≡ []
    by true k rest = absurd (any_first (is_deleting x.request) (list_any (λ (x : Standing). is_deleting x.request) (filter test xs)) (is_deleting_so x.request all.0) k)
      where
        any_first : (a b : Bool) → a ≡ true → (a || b) ≡ false → ⊥
        any_first true b t l = cc l
        any_first false b t l = cc t
    by false k rest = rest k

-- *Before the answer*
module _ (past : Past) (world : IsWorld past) (own_chains : HasOwnChains past.now) (node : NodeId) (site : Site) (found : site_at past.now node ≡ Some site)
    (sound : IsSound (setups_of site.controller) site.controller) (order : IsOrderly site.controller) where
  abbrev setups : List Setup
  setups = setups_of site.controller

  abbrev w : World
  w = past.now

  -- an input of a join is a label of a link
  pub lent_of : (input output : End) → IsJoin site.controller input output → lent_at site.controller.ports output.port.0 (number_of_channel output.channel) ≡ Some input
  lent_of input output j = ap (option_and_then (λ (x : Linked). lent_in x.port.grants (number_of_channel output.channel))) j.found
      ∙ (ap (option_and_then (λ (g : Grant). lent_input g.state)) j.granted ∙ j.lent)

  join_input : (input output : End) → IsJoin site.controller input output → IsLabelEnd setups input
  join_input input output j = lent_proper setups (acting w site) (has_ports setups (acting w site) sound) output.port.0 (number_of_channel output.channel) input (lent_of input output j)

  -- what stands while the switch is being met leads nothing
  meets_none : (x : Standing) (input output : End) (standing : List Standing) → IsMeeting standing → Contains standing x → leads x.request ≡ Some (input, output) → ⊥
  meets_none x input output _ (listing s is) there e = by_first s x [] there (λ same. cc (sym e ∙ ap (λ (z : Standing). leads z.request) (sym same) ∙ ap leads is)) (λ k. absurd (omega (arith, k.1)))
  meets_none x input output _ (emptying standing all) there e = deleting_leads x.request input output (every_in (λ (s : Standing). IsDeleting s.request) standing x all there) e

  pair_input : (input output : End) → 0 < input.port.0 → 0 < output.port.0 → SitePairs w.notes.frames site input output → IsLabelEnd setups input
  pair_input input output above on (branch e) = branch_input setups input output ((world.shapes node site found).branches input output e) above on
  pair_input input output above on (desk x there e) = shaped_input setups x.request (every_in (λ (s : Standing). IsShaped setups s.request) site.controller.desk.standing x sound.requests there) input output above on e
  pair_input input output above on (chain x cell there copy e) = shaped_input setups x.request ((world.shapes node site found).copies x cell in_ways copy) input output above on e
    where
      in_ways : Contains (gsmp_to_switch w node) cell
      in_ways = in_left cell (requests_chain_at w node) (on_channel default_channel (queue_at w (Down node)))
          (subst (λ (xs : List Cell). Contains xs cell) (sym (ap gathered_by found)) there)
  pair_input input output above on (queue x cell there here copy e) = shaped_input setups x.request ((world.shapes node site found).copies x cell in_ways copy) input output above on e
    where
      in_ways : Contains (gsmp_to_switch w node) cell
      in_ways = in_right cell (requests_chain_at w node) (on_channel default_channel (queue_at w (Down node)))
          (in_filter (λ (c : Cell). same_channel c.header.channel default_channel) cell (queue_at w (Down node)) (subst (λ (xs : List Cell). Contains xs cell) (sym (ap (waiting_by (Down node)) found)) there) here)

  module _ (cell : Cell) (cells : List Cell) (front : queue_of site.switch.crossbar control_port ≡ cell ∷ cells) (here : same_channel cell.header.channel default_channel ≡ true) (last : cell.header.last ≡ true)
      (payload : List ℕ) (made : payload_of w.notes.frames cell.mark ≡ Some payload) (m : Message) (read : gsmp_of payload ≡ Some m) (s : Standing) (done : answered site.controller.desk m ≡ Done s) where
    k : IsSuccess site.controller.desk.standing m s
    k = success_of site.controller.desk.standing m s done

    stands : Contains site.controller.desk.standing s
    stands = find_in (λ (x : Standing). x.number == k.head.number && is_of_type m x.request) site.controller.desk.standing s k.found

    estab : is_estab site.controller.adjacency.state ≡ true
    estab = by (is_estab site.controller.adjacency.state) refl
      where
        by : (b : Bool) → is_estab site.controller.adjacency.state ≡ b → b ≡ true
        by true e = refl
        by false e = absurd (none_in site.controller.desk.standing s (sound.desk.waits e) stands)

    unlisted : IsAllPorts s.request → ⊥
    unlisted all = never_listed site.controller.desk.standing m s
        (subst (λ (r : Request). is_of_type m r ≡ true) (asked_all s.request all)
        (and_second (s.number == k.head.number) (is_of_type m s.request) (find_passes (λ (x : Standing). x.number == k.head.number && is_of_type m x.request) site.controller.desk.standing s k.found))) done

    numbered : IsNumbered site.controller.desk
    numbered = record { below = sound.desk.below; earlier = sound.desk.earlier }

    behind : (input : End) → IsLabelEnd setups input → IsBehind node input site w.notes.frames w.numbers cells s
    behind input is = answer_line node input site w.notes.frames w.numbers world.numbers.unmade numbered (world.inputs node site found input is) cell cells front here last payload made m read s done unlisted estab

    -- where a request that leads home was answered last, nothing leads the input elsewhere, but what is as that request
    no_pair : (input output : End) (is : IsLabelEnd setups input) (n : ℕ) (q : lines.InputRequest) → (behind input is).line.controller.asked ≡ Answered n q → IsHomely q → 0 < output.port.0
        → (leads s.request ≡ Some (input, output) → ⊥) → SitePairs w.notes.frames site input output → ⊥
    no_pair input output is n q asked homely on other (branch e) = no_branch node input site w.notes.frames w.numbers cells s (behind input is) n q asked homely output on e
    no_pair input output is n q asked homely on other (desk x there e) = by (x.number == s.number) refl
      where
        by : (b : Bool) → (x.number == s.number) ≡ b → ⊥
        by true same = other (ap (λ (z : Standing). leads z.request) (sym (same_standing site.controller.desk.standing sound.desk.earlier x s there stands same)) ∙ e)
        by false apart = no_other node input site w.notes.frames w.numbers cells s (behind input is) n q asked homely x output there apart e
    no_pair input output is n q asked homely on other (chain x c there copy e) = no_chain node input site w.notes.frames w.numbers cells s (behind input is) n q asked homely c x output there on e
        (own_chains node c (in_left c (requests_chain_at w node) (answers_chain_at w node) (subst (λ (xs : List Cell). Contains xs c) (sym (ap gathered_by found)) there))) copy
    no_pair input output is n q asked homely on other (queue x c there same copy e) = no_queue node input site w.notes.frames w.numbers cells s (behind input is) n q asked homely c x output there on e same copy

    -- *Led home*
    homely_leads : (request : Request) (input output : End) → IsHomely (on_input request) → 0 < output.port.0 → leads request ≡ Some (input, output) → ⊥
    homely_leads (AddBranch i o) input output h on e = h
    homely_leads (MoveBranch i from to) input output h on e = none_below setups output.port.0 on (ap (λ (x : End). x.port.0) (sym (output_is setups i to input output e)) ∙ h)
    homely_leads (DeleteTree i) input output h on e = absurd (cc e)
    homely_leads (VerifyTree i) input output h on e = absurd (cc e)
    homely_leads (DeleteAll port) input output h on e = absurd (cc e)
    homely_leads (PortManagement port function) input output h on e = absurd (cc e)
    homely_leads AllPorts input output h on e = absurd (cc e)

    pub led_home : (input output : End) → 0 < input.port.0 → 0 < output.port.0 → leads_home input (home_of input) s.request ≡ true → Pairs w node input output → ⊥
    led_home input output above on leads_it pair = by (of_pairs w node input output pair)
      where
        by : (p : (x : Site) × ((site_at w node ≡ Some x) × SitePairs w.notes.frames x input output)) → ⊥
        by (x, (there, p)) =
            let same : x ≡ site = (let both : Some x ≡ Some site = sym there ∙ found in cc both) in
            let mine : SitePairs w.notes.frames site input output = subst (λ (z : Site). SitePairs w.notes.frames z input output) same p in
            let is : IsLabelEnd setups input = pair_input input output above on mine in
            let h = home_request input s.request leads_it in
            no_pair input output is s.number _ ((behind input is).also.own h.0) h.1 on (λ e. homely_leads s.request input output h.1 on e) mine

    -- *The meeting ends*
    pub meeting_ends : (input output : End) → 0 < input.port.0 → 0 < output.port.0 → site.controller.has_met ≡ false → is_deleting s.request ≡ true
        → has_emptied (record site.controller { desk = after_answer site.controller.desk (Done s) }) ≡ true → Pairs w node input output → ⊥
    meeting_ends input output above on unmet deletes emptied pair = by (of_pairs w node input output pair)
      where
        all_deleting : (standing : List Standing) → IsMeeting standing → Contains standing s → Every (λ (x : Standing). IsDeleting x.request) standing
        all_deleting _ (listing x is) there = by_first x s [] there (λ same. absurd (cc (sym deletes ∙ ap (λ (z : Standing). is_deleting z.request) (sym same) ∙ ap is_deleting is))) (λ l. absurd (omega (arith, l.1)))
        all_deleting _ (emptying standing all) there = all

        not_false : (b : Bool) → not b ≡ true → b ≡ false
        not_false true e = absurd (cc e)
        not_false false e = refl

        left : (without_request site.controller.desk s).standing ≡ []
        left = none_left (λ (x : Standing). not (x.number == s.number)) site.controller.desk.standing (all_deleting site.controller.desk.standing (order.meeting unmet) stands)
            (not_false (list_any (λ (x : Standing). is_deleting x.request) (without_request site.controller.desk s).standing) emptied)

        now_met : met_after site.controller.has_met (without_request site.controller.desk s).standing ≡ true
        now_met = ap (λ (b : Bool). met_after b (without_request site.controller.desk s).standing) unmet ∙ ap is_none_left left

        empty : (input : End) (is : IsLabelEnd setups input) → IsEmptyWhenMet (behind input is).line
        empty input is = holds_reached IsEmptyWhenMet (always_lem IsEmptyWhenMet emptied_lem) (behind input is).line (behind input is).reached

        asked_so : (a : Asked) → IsEmptied a → (n : ℕ) × (a ≡ Answered n lines.DeleteAll)
        asked_so (Answered n lines.DeleteAll) h = (n, refl)
        asked_so (Answered n (lines.AddBranch o)) h = absurd h
        asked_so (Answered n (lines.MoveBranch from to)) h = absurd h
        asked_so (Answered n lines.DeleteTree) h = absurd h
        asked_so Apart h = absurd h
        asked_so Unasked h = absurd h
        asked_so (StandsAsked n request) h = absurd h

        by : (p : (x : Site) × ((site_at w node ≡ Some x) × SitePairs w.notes.frames x input output)) → ⊥
        by (x, (there, p)) =
            let same : x ≡ site = (let both : Some x ≡ Some site = sym there ∙ found in cc both) in
            let mine : SitePairs w.notes.frames site input output = subst (λ (z : Site). SitePairs w.notes.frames z input output) same p in
            let is : IsLabelEnd setups input = pair_input input output above on mine in
            let a = asked_so (behind input is).line.controller.asked (empty input is ((behind input is).also.met unmet now_met)).1 in
            no_pair input output is a.0 lines.DeleteAll a.1 tt on (λ e. meets_none s input output site.controller.desk.standing (order.meeting unmet) stands e) mine
