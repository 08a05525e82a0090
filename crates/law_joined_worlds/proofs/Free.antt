-- nothing else of an input is left once a request that led it home was answered

use Rattle.std.proofs.Common.{◌≡◌, ℕ, zero, suc, ◌<◌, Bool, true, false, List, [], ◌∷◌, ◌++◌, Option, None, Some, refl, sym, ◌∙◌, ap, subst, arith, Contains, ◌⊎◌, inl, inr, if◌then◌else◌}
use Rattle.std.specs.Prelude.{◌==◌, not, filter, is_some}
use Rattle.std.specs.Option.{option_and_then}
use Rattle.world_model.specs.Words.{End, NodeId, GivenOut, Cell, State, Clearing, SynSent, SynRcvd, Estab, is_estab, Request, AddBranch, MoveBranch, DeleteTree, VerifyTree, PortManagement, same_end, Frame, payload_of, Standing, leads_home, without_request, home_of, default_channel, same_channel, Site, gsmp_of, copy_of, copy_under, leads}
use Rattle.world_model.specs.gsmp_wire.declared.message.Message.{Message}
use Rattle.world_model.specs.gsmp_wire.declared.message.Message.TheVariants as messages
use Rattle.world_model.specs.gsmp_wire.declared.request.Request.TheVariants.{DeleteAll, AllPorts}
use Rattle.world_model.specs.crossbar_model.Crossbar.{output_of}
use Rattle.law_frame_readings.specs.ordered_lists.Ordered.{Every}
use Rattle.law_frame_readings.proofs.ordered_lists.Every.{every_right}
use Rattle.law_fed_worlds.proofs.law_controller.Asked.{same_end_itself}
use Rattle.law_fed_worlds.proofs.law_controller.Matched.{end_is}
use Rattle.law_frame_readings.specs.law_branch_line.Words as lines
use Rattle.law_frame_readings.specs.law_branch_line.Words.{OnInput, Elsewhere, Copy, ControllerGreets, asked_branch, ToSwitch}
use Rattle.law_frame_readings.specs.law_branch_line.Line.{Asked, Apart, Unasked, Stands as StandsAsked, Answered, way_to_switch}
use Rattle.law_frame_readings.specs.law_branch_line.Law.{IsSettled, IsSettledInEstab, IsOfTheLast, IsAskedFor}
use Rattle.law_frame_readings.proofs.law_branch_line.Reached.{holds_reached}
use Rattle.law_frame_readings.proofs.law_branch_line.Runs.{always_lem, settled_lem}
use Rattle.law_frame_readings.specs.law_shown_cells.Seen.{Seen, Nothing, Word, Shows, nothing, hidden, word}
use Rattle.law_frame_readings.specs.law_input_views.Words.{erased, seen_request, seen_copy, seen_on_gsmp, seen_cell, own_request, word_by, type_of, own_of, is_own}
use Rattle.law_frame_readings.specs.law_input_views.Shown.{controller_of, switch_of, AskedShows}
use Rattle.law_running_worlds.specs.law_input_steps.Asking.{concerns, on_input}
use Rattle.law_joined_worlds.proofs.Answered.{IsBehind}
use Rattle.law_frame_readings.proofs.law_port_facts.Rules.{and_second, and_first}

-- *A request that leads home*, as its input's line has it
abbrev pub IsHomely : lines.InputRequest → Type 0
IsHomely (lines.AddBranch output) = ⊥
IsHomely (lines.MoveBranch from to) = to.port.0 ≡ 0
IsHomely lines.DeleteTree = Unit {0}
IsHomely lines.DeleteAll = Unit {0}

pub home_request : (input : End) (request : Request) → leads_home input (home_of input) request ≡ true → (concerns input request ≡ true) × IsHomely (on_input request)
home_request input (AddBranch i o) e = absurd (cc e)
home_request input (MoveBranch i from to) e =
    let same : i ≡ input = end_is i input (and_first (same_end i input) (same_end to (home_of input)) e) in
    let home : to ≡ home_of input = end_is to (home_of input) (and_second (same_end i input) (same_end to (home_of input)) e) in
    (subst (λ (x : End). same_end input x ≡ true) (sym same) (same_end_itself input), ap (λ (x : End). x.port.0) home)
home_request input (DeleteTree i) e = (subst (λ (x : End). same_end input x ≡ true) (sym (end_is i input e)) (same_end_itself input), tt)
home_request input (VerifyTree i) e = absurd (cc e)
home_request input (DeleteAll port) e = (e, tt)
home_request input (PortManagement port function) e = absurd (cc e)
home_request input AllPorts e = absurd (cc e)

no_port : (n : ℕ) → n ≡ 0 → 0 < n → ⊥
no_port n is some = absurd (omega (arith, is, some))

-- *Pairs*
first_of_two : (i o : End) (input output : End) → ◌≡◌ {A = Option (End × End)} (Some (i, o)) (Some (input, output)) → i ≡ input
first_of_two i o input output e = (let both : ◌≡◌ {A = End × End} (i, o) (input, output) = cc e in ap (λ (p : End × End). p.0) both)

second_of_two : (i o : End) (input output : End) → ◌≡◌ {A = Option (End × End)} (Some (i, o)) (Some (input, output)) → o ≡ output
second_of_two i o input output e = (let both : ◌≡◌ {A = End × End} (i, o) (input, output) = cc e in ap (λ (p : End × End). p.1) both)

-- a request that leads the input to an output above port 0 is on the input, and doesn't lead home
record LeadsAway (input output : End) (request : Request) : Type 0 where
  on : lines.InputRequest
  is : own_request input request ≡ Some on
  away : IsHomely on → 0 < output.port.0 → ⊥

leads_away : (input output : End) (request : Request) → leads request ≡ Some (input, output) → LeadsAway input output request
leads_away input output (AddBranch i o) e = record {
  on = lines.AddBranch o;
  is = ap (λ (b : Bool). if b then Some (lines.AddBranch o) else None) (subst (λ (x : End). same_end input x ≡ true) (sym (first_of_two i o input output e)) (same_end_itself input));
  away = λ homely some. homely;
}
leads_away input output (MoveBranch i from to) e = record {
  on = lines.MoveBranch from to;
  is = ap (λ (b : Bool). if b then Some (lines.MoveBranch from to) else None) (subst (λ (x : End). same_end input x ≡ true) (sym (first_of_two i to input output e)) (same_end_itself input));
  away = λ homely some. no_port output.port.0 (ap (λ (x : End). x.port.0) (sym (second_of_two i to input output e)) ∙ homely) some;
}
leads_away input output (DeleteTree i) e = absurd (cc e)
leads_away input output (VerifyTree i) e = absurd (cc e)
leads_away input output (DeleteAll port) e = absurd (cc e)
leads_away input output (PortManagement port function) e = absurd (cc e)
leads_away input output AllPorts e = absurd (cc e)

-- *Cells and their words*
in_cells : {W : Type 0} {er : W → W} {f : Cell → Seen W} {cs : List Cell} {ts : List W} (P : W → Type 0) (c : Cell) → Shows er f cs ts → Every P ts → Contains cs c → (f c ≡ Nothing) ⊎ ((t : W) × ((f c ≡ Word (er t)) × P t))
in_cells P c nothing all h = absurd (omega (arith, h.1))
in_cells {f = f} P c (hidden e rest) all (zero, low, is) = inl (ap f (sym is) ∙ e)
in_cells P c (hidden e rest) all (suc k, low, is) = in_cells P c rest all (k, omega (arith, low), is)
in_cells {f = f} P c (word {w = w} e rest) all (zero, low, is) = inr (w, (ap f (sym is) ∙ e, all.0))
in_cells P c (word e rest) all (suc k, low, is) = in_cells P c rest all.1 (k, omega (arith, low), is)

every_left : {A : Type 0} (P : A → Type 0) (xs ys : List A) → Every P (xs ++ ys) → Every P xs
every_left P [] ys all = tt
every_left P (x ∷ xs) ys all = (all.0, every_left P xs ys all.1)

-- a copy is seen as one
module _ (node : NodeId) (input : End) where
  abbrev seen_requests : (last : Bool) → Option Message → Seen ToSwitch
  seen_requests last m = seen_request (controller_of node) (switch_of node) input last m

  message_seen : (last : Bool) (m : Message) (s : Standing) → copy_of m ≡ Some s → seen_requests last (Some m) ≡ seen_copy input (Some s)
  message_seen last (messages.Adjacency g) s e = absurd (cc e)
  message_seen last (messages.Branch kind r c n session ip i op o br pr) s e = ap (seen_copy input) e
  message_seen last (messages.Move r c n session ip i op o tp t br pr) s e = ap (seen_copy input) e
  message_seen last (messages.Port r c n p session f) s e = ap (seen_copy input) e
  message_seen last (messages.AllPorts r c n rows) s e = ap (seen_copy input) e

  payload_seen : (last : Bool) (o : Option (List ℕ)) (s : Standing) → option_and_then copy_of (option_and_then gsmp_of o) ≡ Some s → seen_on_gsmp seen_requests last o ≡ seen_copy input (Some s)
  payload_seen last None s e = absurd (cc e)
  payload_seen last (Some payload) s e = by (gsmp_of payload) refl e
    where
      by : (m : Option Message) → gsmp_of payload ≡ m → option_and_then copy_of m ≡ Some s → seen_on_gsmp seen_requests last (Some payload) ≡ seen_copy input (Some s)
      by None is k = absurd (cc k)
      by (Some m) is k = ap (seen_requests last) is ∙ message_seen last m s k

  copy_seen : (frames : List Frame) (cell : Cell) (s : Standing) → same_channel cell.header.channel default_channel ≡ true → copy_under frames cell.mark ≡ Some s
      → seen_cell seen_requests frames cell ≡ seen_copy input (Some s)
  copy_seen frames cell s here e = ap (λ (b : Bool). if b then seen_on_gsmp seen_requests cell.header.last (payload_of frames cell.mark) else Nothing) here ∙ payload_seen cell.header.last (payload_of frames cell.mark) s e

  is_state : (state : State) → is_estab state ≡ true → state ≡ Estab
  is_state Clearing e = absurd (cc e)
  is_state SynSent e = absurd (cc e)
  is_state SynRcvd e = absurd (cc e)
  is_state Estab e = refl

  same_word : (x y : ToSwitch) → ◌≡◌ {A = Seen ToSwitch} (Word x) (Word y) → x ≡ y
  same_word x y e = cc e

  -- a word of a request that was answered last is of that request
  last_is : (n : ℕ) (q on : lines.InputRequest) (number : ℕ) (t : ToSwitch) → IsOfTheLast (Answered n q) t → Copy 0 number (OnInput on) ≡ erased t → on ≡ q
  last_is n q on number (ControllerGreets kind x y) last e = absurd (cc e)
  last_is n q on number (Copy under copied (Elsewhere other)) last e = absurd (cc e)
  last_is n q on number (Copy under copied (OnInput repeated)) last e = (let all : ◌≡◌ {A = ToSwitch} (Copy 0 number (OnInput on)) (Copy 0 copied (OnInput repeated)) = e in let one : on ≡ repeated = cc in one ∙ last.1)

  -- *Behind the answer*
  module _ (site : Site) (frames : List Frame) (numbers : GivenOut) (cells : List Cell) (s : Standing) (b : IsBehind node input site frames numbers cells s) (n : ℕ) (q : lines.InputRequest)
      (asked : b.line.controller.asked ≡ Answered n q) (homely : IsHomely q) where
    estab : is_estab b.line.controller.adjacency.state ≡ true
    estab = by (is_estab b.line.controller.adjacency.state) refl b.stands.own.asked
      where
        by : (t : Bool) → is_estab b.line.controller.adjacency.state ≡ t → AskedShows input t (own_of input (without_request site.controller.desk s).standing) b.line.controller.asked → is_estab b.line.controller.adjacency.state ≡ true
        by true e k = e
        by false e k = absurd (cc (sym asked ∙ k.0))

    settled : IsSettled b.line
    settled = holds_reached IsSettledInEstab (always_lem IsSettledInEstab settled_lem) b.line b.reached (is_state b.line.controller.adjacency.state estab)

    -- no branch
    pub no_branch : (output : End) → 0 < output.port.0 → output_of site.switch.crossbar.branches input ≡ Some output → ⊥
    no_branch output some e = by (subst (λ (a : Asked). IsAskedFor a b.line.switch.branch) asked settled.branch)
      where
        leads_there : (x : lines.InputRequest) → IsHomely x → Some output ≡ asked_branch x → ⊥
        leads_there (lines.AddBranch o) h k = h
        leads_there (lines.MoveBranch from to) h k = (let one : output ≡ to = cc k in no_port output.port.0 (ap (λ (x : End). x.port.0) one ∙ h) some)
        leads_there lines.DeleteTree h k = cc k
        leads_there lines.DeleteAll h k = cc k

        by : (b.line.switch.branch ≡ None) ⊎ (b.line.switch.branch ≡ asked_branch q) → ⊥
        by (inl none) = cc (sym e ∙ (sym b.stands.far.branch ∙ none))
        by (inr asked_for) = leads_there q homely (sym e ∙ (sym b.stands.far.branch ∙ asked_for))

    -- no copy
    copied : (c : Cell) (x : Standing) (output : End) → 0 < output.port.0 → leads x.request ≡ Some (input, output) → same_channel c.header.channel default_channel ≡ true → copy_under frames c.mark ≡ Some x
        → (seen_cell seen_requests frames c ≡ Nothing) ⊎ ((t : ToSwitch) × ((seen_cell seen_requests frames c ≡ Word (erased t)) × IsOfTheLast (Answered n q) t)) → ⊥
    copied c x output some on here copy found =
        by found
      where
        l : LeadsAway input output x.request
        l = leads_away input output x.request on

        seen : seen_cell seen_requests frames c ≡ Word (Copy 0 x.number (OnInput l.on))
        seen = copy_seen frames c x here copy ∙ ap (λ (o : Option lines.InputRequest). word_for o) l.is
          where
            word_for : Option lines.InputRequest → Seen ToSwitch
            word_for o = Word (Copy 0 x.number (word_by o (type_of x.request)))

        by : (seen_cell seen_requests frames c ≡ Nothing) ⊎ ((t : ToSwitch) × ((seen_cell seen_requests frames c ≡ Word (erased t)) × IsOfTheLast (Answered n q) t)) → ⊥
        by (inl hid) = cc (sym hid ∙ seen)
        by (inr w) =
            let is : l.on ≡ q = last_is n q l.on x.number w.0 w.1.1 (same_word (Copy 0 x.number (OnInput l.on)) (erased w.0) (sym seen ∙ w.1.0)) in
            l.away (subst IsHomely (sym is) homely) some

    lasts : Every (IsOfTheLast (Answered n q)) (b.line.at_switch ++ b.line.to_switch)
    lasts = subst (λ (a : Asked). Every (IsOfTheLast a) (way_to_switch b.line)) asked settled.copies

    pub no_chain : (c : Cell) (x : Standing) (output : End) → Contains site.switch.reassembly.chain c → 0 < output.port.0 → leads x.request ≡ Some (input, output) → same_channel c.header.channel default_channel ≡ true
        → copy_under frames c.mark ≡ Some x → ⊥
    no_chain c x output there some on here copy = copied c x output some on here copy (in_cells (IsOfTheLast (Answered n q)) c b.stands.at_switch (every_left (IsOfTheLast (Answered n q)) b.line.at_switch b.line.to_switch lasts) there)

    pub no_queue : (c : Cell) (x : Standing) (output : End) → Contains site.controller.queue c → 0 < output.port.0 → leads x.request ≡ Some (input, output) → same_channel c.header.channel default_channel ≡ true
        → copy_under frames c.mark ≡ Some x → ⊥
    no_queue c x output there some on here copy = copied c x output some on here copy (in_cells (IsOfTheLast (Answered n q)) c b.stands.to_switch (every_right (IsOfTheLast (Answered n q)) b.line.at_switch b.line.to_switch lasts) there)

    -- nothing that stands, but what was answered
    empty_own : own_of input (without_request site.controller.desk s).standing ≡ []
    empty_own = by (is_estab b.line.controller.adjacency.state) estab b.stands.own.asked
      where
        shown : (a : Asked) → a ≡ Answered n q → AskedShows input true (own_of input (without_request site.controller.desk s).standing) a → own_of input (without_request site.controller.desk s).standing ≡ []
        shown Apart e k = absurd k
        shown Unasked e k = k
        shown (StandsAsked number request) e k = absurd (cc e)
        shown (Answered number request) e k = k

        by : (t : Bool) → t ≡ true → AskedShows input t (own_of input (without_request site.controller.desk s).standing) b.line.controller.asked → own_of input (without_request site.controller.desk s).standing ≡ []
        by true e k = shown b.line.controller.asked asked k
        by false e k = absurd (cc e)

    in_filter : {A : Type 0} (test : A → Bool) (y : A) (xs : List A) → Contains xs y → test y ≡ true → Contains (filter test xs) y
    in_filter test y [] h t = absurd (omega (arith, h.1))
    in_filter {A} test y (x ∷ xs) (zero, low, e) t = subst (λ (b : Bool). Contains (if b then x ∷ filter test xs else filter test xs) y) (sym (ap test e ∙ t)) (0, omega arith, e)
    in_filter {A} test y (x ∷ xs) (suc k, low, e) t = by (test x) (in_filter test y xs (k, omega (arith, low), e) t)
      where
        by : (b : Bool) → Contains (filter test xs) y → Contains (if b then x ∷ filter test xs else filter test xs) y
        by true h = (suc h.0, omega (arith, h.1), h.2)
        by false h = h

    none_in : {A : Type 0} (xs : List A) (y : A) → xs ≡ [] → Contains xs y → ⊥
    none_in {A} xs y is h = absurd (omega (arith, (let k : Contains {X = A} [] y = subst (λ (zs : List A). Contains zs y) is h in k.1)))

    pub no_other : (x : Standing) (output : End) → Contains site.controller.desk.standing x → (x.number == s.number) ≡ false → leads x.request ≡ Some (input, output) → ⊥
    no_other x output there other on =
        let l : LeadsAway input output x.request = leads_away input output x.request on in
        none_in (own_of input (without_request site.controller.desk s).standing) x empty_own
        (in_filter (is_own input) x (without_request site.controller.desk s).standing
        (in_filter (λ (y : Standing). not (y.number == s.number)) x site.controller.desk.standing there (ap not other)) (ap (λ (o : Option lines.InputRequest). is_some o) l.is))
