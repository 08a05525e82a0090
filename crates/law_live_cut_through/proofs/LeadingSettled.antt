-- where nothing stands on an input, each request on the way that concerns it is the one that was answered last, and the input leads nowhere or where
-- that asked

use Rattle.std.proofs.Common.{◌≡◌, ℕ, suc, zero, Bool, true, false, List, [], ◌∷◌, filter, map, Option, None, Some, refl, sym, ◌∙◌, ap, subst, arith, Contains, ◌⊎◌, inl, inr, if◌then◌else◌}
use Rattle.std.specs.Prelude.{◌&&◌}
use Rattle.std.specs.Option.{option_and_then}
use Rattle.world_model.specs.Words.{End, NodeId, Mark, Cell, Estab, is_estab, Request, AddBranch, MoveBranch, DeleteTree, VerifyTree, PortManagement, Frame, payload_of, Standing, default_channel, same_channel, Site, gsmp_of, copy_of, copy_under}
use Rattle.world_model.specs.gsmp_wire.declared.message.Message.{Message}
use Rattle.world_model.specs.gsmp_wire.declared.message.Message.TheVariants as messages
use Rattle.world_model.specs.gsmp_wire.declared.request.Request.TheVariants.{DeleteAll, AllPorts}
use Rattle.world_model.specs.Ways.{ok_of}
use Rattle.world_model.specs.crossbar_model.Crossbar.{output_of}
use Rattle.world_model.specs.switch_model.declared.request.Asked.{Asked}
use Rattle.live_model.specs.Peace.{is_last_on}
use Rattle.law_branch_shapes.proofs.Kept.{copy_is}
use Rattle.law_live_ease.specs.law_port_facts.ordered_lists.Ordered.{Every}
use Rattle.law_live_ease.proofs.law_frame_readings.ordered_lists.Every.{every_right}
use Rattle.law_live_ease.specs.law_input_steps.Asking.{concerns, on_input}
use Rattle.law_live_ease.proofs.law_input_steps.Ends.{owns, word_on}
use Rattle.law_live_ease.specs.law_input_steps.law_branch_line.Words as lines
use Rattle.law_live_ease.specs.law_input_steps.law_branch_line.Words.{OnInput, Elsewhere, Copy, ControllerGreets, asked_branch, ToSwitch}
use Rattle.law_live_ease.specs.law_input_steps.law_branch_line.Line as of_line
use Rattle.law_live_ease.specs.law_input_steps.law_branch_line.Line.{Apart, Unasked, Stands, Answered, Line, way_to_switch}
use Rattle.law_live_ease.specs.law_input_steps.law_branch_line.Law.{IsSettled, IsSettledInEstab, IsOfTheLast, IsAskedFor}
use Rattle.law_live_ease.proofs.law_input_steps.law_branch_line.Reached.{holds_reached}
use Rattle.law_live_ease.proofs.law_input_steps.law_branch_line.Runs.{always_lem, settled_lem}
use Rattle.law_live_ease.specs.law_input_steps.law_shown_cells.Seen.{Seen, Nothing, Word, Shows, nothing, hidden, word}
use Rattle.law_live_ease.specs.law_input_steps.law_input_views.Words.{erased, seen_request, seen_copy, seen_on_gsmp, seen_cell, own_of, is_own}
use Rattle.law_live_ease.specs.law_input_steps.law_input_views.Shown.{controller_of, switch_of, AskedShows}
use Rattle.law_live_ease.specs.law_input_steps.law_input_views.Reaching.{ReachedAs, Anything}
use Rattle.law_live_ease.specs.law_live_orders.Law.{last_marks}
use Rattle.law_live_ease.specs.law_live_mirrors.Mirrors.{leads_to, LeadOn}
use Rattle.law_live_ease.specs.law_live_mirrors.Asking.{IsFree}
use Rattle.law_live_ease.specs.law_live_mirrored_worlds.Way.{Asks, AreAsked, none, asking, passed, requests_of}

-- *Cells and their words*
in_cells : {W : Type 0} {er : W → W} {f : Cell → Seen W} {cs : List Cell} {ts : List W} (P : W → Type 0) (c : Cell) → Shows er f cs ts → Every P ts → Contains cs c → (f c ≡ Nothing) ⊎ ((t : W) × ((f c ≡ Word (er t)) × P t))
in_cells P c nothing all h = absurd (omega (arith, h.1))
in_cells {f = f} P c (hidden e rest) all (zero, low, is) = inl (ap f (sym is) ∙ e)
in_cells P c (hidden e rest) all (suc k, low, is) = in_cells P c rest all (k, omega (arith, low), is)
in_cells {f = f} P c (word {w = w} e rest) all (zero, low, is) = inr (w, (ap f (sym is) ∙ e, all.0))
in_cells P c (word e rest) all (suc k, low, is) = in_cells P c rest all.1 (k, omega (arith, low), is)

same_word : (x y : ToSwitch) → ◌≡◌ {A = Seen ToSwitch} (Word x) (Word y) → x ≡ y
same_word x y e = cc e

-- *The requests on the way* are copies in the queue
module _ (frames : List Frame) (P : Request → Type 0) where
  abbrev IsGiven : Mark → Type 0
  IsGiven mark = (s : Standing) → copy_under frames mark ≡ Some s → P s.request

  each_mark : (queue : List Cell) → ((cell : Cell) → Contains queue cell → is_last_on default_channel cell ≡ true → IsGiven cell.mark)
      → Every IsGiven (last_marks default_channel queue)
  each_mark [] given = tt
  each_mark (x ∷ xs) given = by (is_last_on default_channel x) refl (each_mark xs (λ cell there last. given cell (suc there.0, omega (arith, there.1), there.2) last))
    where
      by : (b : Bool) → is_last_on default_channel x ≡ b → Every IsGiven (map (λ (cell : Cell). cell.mark) (filter (is_last_on default_channel) xs))
          → Every IsGiven (map (λ (cell : Cell). cell.mark) (if b then x ∷ filter (is_last_on default_channel) xs else filter (is_last_on default_channel) xs))
      by true e rest = (given x (0, omega arith, refl) e, rest)
      by false e rest = rest

  asked_given : (mark : Mark) (asked : Asked) → Asks frames mark asked → IsGiven mark → P asked.request
  asked_given mark asked a given =
      let copy : (number : ℕ) × (copy_of a.message ≡ Some (record { number = number; request = asked.request })) = copy_is a.message asked a.request a.asks in
      let read : gsmp_of a.payload ≡ Some a.message = ap ok_of a.read in
      given (record { number = copy.0; request = asked.request })
      (ap (λ (o : Option (List ℕ)). option_and_then copy_of (option_and_then gsmp_of o)) a.made ∙ (ap (option_and_then copy_of) read ∙ copy.1))

  pub each_asked : (marks : List Mark) (way : List Asked) → AreAsked frames marks way → Every IsGiven marks → Every P (requests_of way)
  each_asked marks way none given = tt
  each_asked marks way (asking mark asked is later) given = (asked_given mark asked is given.0, each_asked _ _ later given.1)
  each_asked marks way (passed mark is later) given = each_asked _ _ later given.1

-- *A copy is seen* as one
module _ (node : NodeId) (input : End) where
  abbrev seen_requests : (last : Bool) → Option Message → Seen ToSwitch
  seen_requests last m = seen_request (controller_of node) (switch_of node) input last m

  message_seen : (last : Bool) (m : Message) (s : Standing) → copy_of m ≡ Some s → seen_requests last (Some m) ≡ seen_copy input (Some s)
  message_seen last (messages.Adjacency g) s e = absurd (cc e)
  message_seen last (messages.Branch kind r c n session ip i op o br pr) s e = ap (seen_copy input) e
  message_seen last (messages.Move r c n session ip i op o tp t br pr) s e = ap (seen_copy input) e
  message_seen last (messages.Port r c n p session f) s e = ap (seen_copy input) e
  message_seen last (messages.AllPorts r c n rows) s e = ap (seen_copy input) e

  payload_seen : (last : Bool) (o : Option (List ℕ)) (s : Standing) → option_and_then copy_of (option_and_then gsmp_of o) ≡ Some s → seen_on_gsmp seen_requests last o ≡ seen_copy input (Some s)
  payload_seen last None s e = absurd (cc e)
  payload_seen last (Some payload) s e = by (gsmp_of payload) refl e
    where
      by : (m : Option Message) → gsmp_of payload ≡ m → option_and_then copy_of m ≡ Some s → seen_on_gsmp seen_requests last (Some payload) ≡ seen_copy input (Some s)
      by None is k = absurd (cc k)
      by (Some m) is k = ap (seen_requests last) is ∙ message_seen last m s k

  copy_seen : (frames : List Frame) (cell : Cell) (s : Standing) → same_channel cell.header.channel default_channel ≡ true → copy_under frames cell.mark ≡ Some s
      → concerns input s.request ≡ true → seen_cell seen_requests frames cell ≡ Word (Copy 0 s.number (OnInput (on_input s.request)))
  copy_seen frames cell s here e on = ap (λ (b : Bool). if b then seen_on_gsmp seen_requests cell.header.last (payload_of frames cell.mark) else Nothing) here
      ∙ (payload_seen cell.header.last (payload_of frames cell.mark) s e ∙ ap (λ (r : lines.Request). Word (Copy 0 s.number r)) (word_on input s.request on))

  -- *Where the input leads*: nowhere, or where a request leads it
  abbrev pub LeadsBy : (branch : Option End) → Request → Type 0
  LeadsBy branch request = (branch ≡ None) ⊎ (branch ≡ leads_to request)

  asks_so : (request : Request) → asked_branch (on_input request) ≡ leads_to request
  asks_so (AddBranch i o) = refl
  asks_so (MoveBranch i from to) = refl
  asks_so (DeleteTree i) = refl
  asks_so (VerifyTree i) = refl
  asks_so (DeleteAll port) = refl
  asks_so (PortManagement port function) = refl
  asks_so AllPorts = refl

  -- a word of what was answered last is of that request
  by_word : (a : of_line.Asked) (branch : Option End) (number : ℕ) (request : Request) (t : ToSwitch) → AskedShows input true [] a → IsAskedFor a branch
      → IsOfTheLast a t → Copy 0 number (OnInput (on_input request)) ≡ erased t → LeadsBy branch request
  by_word Apart branch number request t shown asked last e = absurd shown
  by_word (Stands n q) branch number request t shown asked last e = absurd (cc shown.alone)
  by_word a branch number request (ControllerGreets kind x y) shown asked last e = absurd (cc e)
  by_word a branch number request (Copy under copied (Elsewhere other)) shown asked last e = absurd (cc e)
  by_word Unasked branch number request (Copy under copied (OnInput repeated)) shown asked last e = absurd last
  by_word (Answered n q) branch number request (Copy under copied (OnInput repeated)) shown asked last e =
      let all : ◌≡◌ {A = ToSwitch} (Copy 0 number (OnInput (on_input request))) (Copy 0 copied (OnInput repeated)) = e in
      let one : on_input request ≡ repeated = cc in
      by asked (one ∙ last.1)
    where
      by : (branch ≡ None) ⊎ (branch ≡ asked_branch q) → on_input request ≡ q → LeadsBy branch request
      by (inl nowhere) same = inl nowhere
      by (inr there) same = inr (there ∙ (ap asked_branch (sym same) ∙ asks_so request))

  module _ (site : Site) (frames : List Frame) (instances : ℕ) (reached : ReachedAs node input site frames instances Anything) (up : site.controller.adjacency.state ≡ Estab)
      (free : IsFree site.controller.desk input) where
    abbrev line : Line
    line = reached.line

    line_up : line.controller.adjacency.state ≡ Estab
    line_up = ap (λ side. side.state) (sym reached.shows.controller) ∙ up

    settled : IsSettled line
    settled = holds_reached IsSettledInEstab (always_lem IsSettledInEstab settled_lem) line reached.reached line_up

    own_free : (standing : List Standing) → filter (λ (s : Standing). concerns input s.request) standing ≡ own_of input standing
    own_free [] = refl
    own_free (s ∷ standing) = ap (λ (b : Bool). if b then s ∷ filter (λ (x : Standing). concerns input x.request) standing else filter (λ (x : Standing). concerns input x.request) standing) (sym (owns input s.request))
        ∙ ap (λ (xs : List Standing). if is_own input s then s ∷ xs else xs) (own_free standing)

    shown : AskedShows input true [] line.controller.asked
    shown = subst (λ (b : Bool). AskedShows input b [] line.controller.asked) (ap is_estab line_up)
        (subst (λ (own : List Standing). AskedShows input (is_estab line.controller.adjacency.state) own line.controller.asked) (sym (own_free site.controller.desk.standing) ∙ free) reached.shows.asked)

    copied : (cell : Cell) (s : Standing) → Contains site.controller.queue cell → same_channel cell.header.channel default_channel ≡ true → copy_under frames cell.mark ≡ Some s
        → concerns input s.request ≡ true → LeadsBy (output_of site.switch.crossbar.branches input) s.request
    copied cell s there here copy on = by (in_cells (IsOfTheLast line.controller.asked) cell reached.shows.to_switch
        (every_right (IsOfTheLast line.controller.asked) line.at_switch line.to_switch settled.copies) there)
      where
        seen : seen_cell seen_requests frames cell ≡ Word (Copy 0 s.number (OnInput (on_input s.request)))
        seen = copy_seen frames cell s here copy on

        by : (seen_cell seen_requests frames cell ≡ Nothing) ⊎ ((t : ToSwitch) × ((seen_cell seen_requests frames cell ≡ Word (erased t)) × IsOfTheLast line.controller.asked t))
            → LeadsBy (output_of site.switch.crossbar.branches input) s.request
        by (inl hid) = absurd (cc (sym hid ∙ seen))
        by (inr t) = subst (λ (branch : Option End). LeadsBy branch s.request) reached.shows.branch
            (by_word line.controller.asked line.switch.branch s.number s.request t.0 shown settled.branch t.1.1
            (same_word (Copy 0 s.number (OnInput (on_input s.request))) (erased t.0) (sym seen ∙ t.1.0)))

    second_of : (x y : Bool) → (x && y) ≡ true → y ≡ true
    second_of true y e = e
    second_of false y e = absurd (cc e)

    abbrev pub Leads : Request → Type 0
    Leads request = concerns input request ≡ true → LeadsBy (output_of site.switch.crossbar.branches input) request

    -- *So does each on the way* that concerns it
    pub each_leads : (way : List Asked) → AreAsked frames (last_marks default_channel site.controller.queue) way
        → Every Leads (requests_of way)
    each_leads way are = each_asked frames Leads (last_marks default_channel site.controller.queue) way are
        (each_mark frames Leads site.controller.queue (λ cell there last s copy on. copied cell s there (second_of cell.header.last (same_channel cell.header.channel default_channel) last) copy on))

-- *The last of what leads it on* leads it to its end
pub data LedBy (Ends : Option End → Type 0) (led : Option End) (Leads : Request → Type 0) : Type 0 where
  at_once : Ends led → LedBy Ends led Leads
  behind : (request : Request) → Leads request → Ends (leads_to request) → LedBy Ends led Leads

module _ (Ends : Option End → Type 0) (Leads : Request → Type 0) (input : End) where
  led_later : (led : Option End) (request : Request) → Leads request → LedBy Ends (leads_to request) Leads → LedBy Ends led Leads
  led_later led request leads (at_once ends) = behind request leads ends
  led_later led request leads (behind other also ends) = behind other also ends

  pub led_by_way : (led : Option End) (requests : List Request) → Every (λ (request : Request). concerns input request ≡ true → Leads request) requests
      → LeadOn led (filter (concerns input) requests) Ends → LedBy Ends led Leads
  led_by_way led [] each on = at_once on
  led_by_way led (request ∷ requests) each on = by (concerns input request) refl (λ now k. led_by_way now requests each.1 k) on
    where
      by : (b : Bool) → concerns input request ≡ b → ((now : Option End) → LeadOn now (filter (concerns input) requests) Ends → LedBy Ends now Leads)
          → LeadOn led (if b then request ∷ filter (concerns input) requests else filter (concerns input) requests) Ends → LedBy Ends led Leads
      by true e later k = led_later led request (each.0 e) (later (leads_to request) k.1)
      by false e later k = later led k
