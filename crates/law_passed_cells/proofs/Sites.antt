-- at a site: what leads to a label, and the cells that wait for the switch

use Rattle.std.proofs.Common.{◌≡◌, ◌≢◌, ℕ, zero, suc, ◌<◌, ◌≤◌, Bool, true, false, List, [], ◌∷◌, ◌++◌, None, Some, refl, sym, ◌∙◌, ap, subst, arith, Contains, inl, inr, if◌then◌else◌}
use Rattle.world_model.specs.Words.{End, Place, Down, Up, Out, Mark, Cell, Frame, Standing, home_of, Controller, default_channel, same_channel, Site, queue_in, with_queue_in, copy_under, leads}
use Rattle.law_fed_worlds.specs.ordered_lists.Ordered.{Every}
use Rattle.law_fed_worlds.proofs.ordered_lists.Every.{every_right}
use Rattle.world_model.specs.crossbar_model.Crossbar.{output_of}
use Rattle.world_model.specs.Switch as switches
use Rattle.law_fed_worlds.specs.law_world_views.Tied.{waiting_on}
use Rattle.law_pairs.specs.law_quiet_controllers.Quiet.{AskTheSame}
use Rattle.law_pairs.proofs.law_quiet_controllers.Beginning.{every_contained, in_tail}
use Rattle.law_pairs.proofs.SitePairs.{SitePairs, branch, chain, queue}
use Rattle.law_pairs.proofs.Branches.{IsLed}
use Rattle.law_pairs.proofs.Acts.{HasMarks, is_zero}

-- *Cells of a channel*
abbrev IsOn : End → Cell → Bool
IsOn output cell = same_channel cell.header.channel (home_of output).channel

abbrev pub IsElsewhere : End → Cell → Type 0
IsElsewhere output cell = same_channel cell.header.channel (home_of output).channel ≡ false

none_on : (output : End) (cells : List Cell) → Every (IsElsewhere output) cells → waiting_on output cells ≡ []
none_on output [] all = refl
none_on output (cell ∷ cells) all = ap (λ (b : Bool). if b then cell ∷ waiting_on output cells else waiting_on output cells) all.0 ∙ none_on output cells all.1

more_on : (output : End) (cells new : List Cell) → waiting_on output cells ≡ [] → Every (IsElsewhere output) new → waiting_on output (cells ++ new) ≡ []
more_on output [] new e all = none_on output new all
more_on output (cell ∷ cells) new e all = by (IsOn output cell) e (more_on output cells new)
  where
    by : (b : Bool) → (if b then cell ∷ waiting_on output cells else waiting_on output cells) ≡ [] → (waiting_on output cells ≡ [] → Every (IsElsewhere output) new → waiting_on output (cells ++ new) ≡ [])
        → (if b then cell ∷ waiting_on output (cells ++ new) else waiting_on output (cells ++ new)) ≡ []
    by true e rest = absurd (cc e)
    by false e rest = rest e all

pub tail_on : (output : End) (cell : Cell) (cells : List Cell) → waiting_on output (cell ∷ cells) ≡ [] → waiting_on output cells ≡ []
tail_on output cell cells e = by (IsOn output cell) e
  where
    by : (b : Bool) → (if b then cell ∷ waiting_on output cells else waiting_on output cells) ≡ [] → waiting_on output cells ≡ []
    by true e = absurd (cc e)
    by false e = e

-- a cell among two lists, and what stands behind it
pub data Behind {A : Type 0} (xs ys before after : List A) (x : A) : Type 0 where
  in_first : (mid : List A) → xs ≡ before ++ x ∷ mid → after ≡ mid ++ ys → Behind xs ys before after x
  in_second : (front : List A) → ys ≡ front ++ x ∷ after → Behind xs ys before after x

behind_in : {A : Type 0} (xs ys before after : List A) (x : A) → xs ++ ys ≡ before ++ x ∷ after → Behind xs ys before after x
behind_in [] ys before after x e = in_second before e
behind_in (y ∷ xs) ys [] after x e =
    let one : y ≡ x = cc e in
    let rest : xs ++ ys ≡ after = cc e in
    in_first xs (ap (λ z. z ∷ xs) one) (sym rest)
behind_in {A} (y ∷ xs) ys (b ∷ before) after x e =
    let one : y ≡ b = cc e in
    let rest : xs ++ ys ≡ before ++ x ∷ after = cc e in
    by one (behind_in xs ys before after x rest)
  where
    by : y ≡ b → Behind xs ys before after x → Behind (y ∷ xs) ys (b ∷ before) after x
    by one (in_first mid is last) = in_first mid (λ i. one i ∷ is i) last
    by one (in_second front is) = in_second front is

there : {A : Type 0} (before after : List A) (x : A) → Contains (before ++ x ∷ after) x
there [] after x = (0, omega arith, refl)
there (b ∷ before) after x = in_tail b x (before ++ x ∷ after) (there before after x)

-- *At a site*
pub record SitePassed (frames : List Frame) (site : Site) : Type 0 where
  pub on_branch : (input output : End) → 0 < input.port.0 → 0 < output.port.0 → output_of site.switch.crossbar.branches input ≡ Some output
      → waiting_on output site.controller.queue ≡ []
  pub in_chain : (input output : End) (s : Standing) (cell : Cell) → 0 < input.port.0 → 0 < output.port.0 → Contains site.switch.reassembly.chain cell
      → copy_under frames cell.mark ≡ Some s → leads s.request ≡ Some (input, output) → waiting_on output site.controller.queue ≡ []
  pub behind : (input output : End) (s : Standing) (before after : List Cell) (cell : Cell) → 0 < input.port.0 → 0 < output.port.0
      → site.controller.queue ≡ before ++ cell ∷ after → copy_under frames cell.mark ≡ Some s → leads s.request ≡ Some (input, output) → waiting_on output after ≡ []
  -- and requests wait on GSMP's channel
  pub asked : (cell : Cell) (s : Standing) → Contains site.controller.queue cell → copy_under frames cell.mark ≡ Some s → same_channel cell.header.channel default_channel ≡ true

-- what joined the queue of a controller is elsewhere
pub record Joined (output : End) (before after : List Cell) : Type 0 where
  pub new : List Cell
  pub is : after ≡ before ++ new
  pub elsewhere : Every (IsElsewhere output) new

abbrev pub AsksNothing : List Frame → Type 0
AsksNothing frames = (mark : Mark) → mark.packet ≢ 0 → copy_under frames mark ≡ None

-- *An event*: frames that were made, and those behind it
module _ (controls : ℕ) (old new : List Frame) (nothing : AsksNothing new) (same : AskTheSame controls old new) where
  pub asked_before : (cell : Cell) (s : Standing) → (cell.mark.packet ≡ 0 → cell.mark.frame ≤ controls) → copy_under new cell.mark ≡ Some s → copy_under old cell.mark ≡ Some s
  asked_before cell s low copy = elim (is_zero cell.mark.packet) [
    | inl control ↦ same cell.mark s control (low control) copy
    | inr packet ↦ absurd (cc (sym (nothing cell.mark packet) ∙ copy))
  ]

  -- a site that stays
  pub stays : (site : Site) → HasMarks controls site → SitePassed old site → SitePassed new site
  stays site m h = record {
    on_branch = h.on_branch;
    in_chain = λ input output s cell above on k copy e. h.in_chain input output s cell above on k (asked_before cell s (m.chains cell k) copy) e;
    behind = λ input output s before after cell above on is copy e. h.behind input output s before after cell above on is
        (asked_before cell s (m.queues cell (subst (λ (xs : List Cell). Contains xs cell) (sym is) (there before after cell))) copy) e;
    asked = λ cell s k copy. h.asked cell s k (asked_before cell s (m.queues cell k) copy);
  }

  -- a controller acts
  pub controller_passed : (site : Site) (b : Controller)
      → ((input output : End) → 0 < input.port.0 → 0 < output.port.0 → SitePairs new (record site { controller = b }) input output → Joined output site.controller.queue b.queue)
      → ((cell : Cell) (s : Standing) → Contains b.queue cell → copy_under new cell.mark ≡ Some s → same_channel cell.header.channel default_channel ≡ true)
      → HasMarks controls site → SitePassed old site → SitePassed new (record site { controller = b })
  controller_passed site b joined gsmp m h = record {
    on_branch = λ input output above on e. whole output (h.on_branch input output above on e) (joined input output above on (branch e));
    in_chain = λ input output s cell above on k copy e. whole output (h.in_chain input output s cell above on k (asked_before cell s (m.chains cell k) copy) e) (joined input output above on (chain s cell k copy e));
    behind = rest;
    asked = gsmp;
  }
    where
      whole : (output : End) → waiting_on output site.controller.queue ≡ [] → Joined output site.controller.queue b.queue → waiting_on output b.queue ≡ []
      whole output none j = subst (λ (xs : List Cell). waiting_on output xs ≡ []) (sym j.is) (more_on output site.controller.queue j.new none j.elsewhere)

      rest : (input output : End) (s : Standing) (before after : List Cell) (cell : Cell) → 0 < input.port.0 → 0 < output.port.0
          → b.queue ≡ before ++ cell ∷ after → copy_under new cell.mark ≡ Some s → leads s.request ≡ Some (input, output) → waiting_on output after ≡ []
      rest input output s before after cell above on is copy e = by (behind_in site.controller.queue j.new before after cell (sym j.is ∙ is))
        where
          k : Contains b.queue cell
          k = subst (λ (xs : List Cell). Contains xs cell) (sym is) (there before after cell)

          j : Joined output site.controller.queue b.queue
          j = joined input output above on (queue s cell k (gsmp cell s k copy) copy e)

          by : Behind site.controller.queue j.new before after cell → waiting_on output after ≡ []
          by (in_first mid first last) = subst (λ (xs : List Cell). waiting_on output xs ≡ []) (sym last)
              (more_on output mid j.new (h.behind input output s before mid cell above on first
              (asked_before cell s (m.queues cell (subst (λ (xs : List Cell). Contains xs cell) (sym first) (there before mid cell))) copy) e) j.elsewhere)
          by (in_second front second) = none_on output after (every_right (IsElsewhere output) (cell ∷ []) after
              (every_right (IsElsewhere output) front (cell ∷ after) (subst (Every (IsElsewhere output)) second j.elsewhere)))

-- *A switch acts*: a branch leads where no cell waits
abbrev pub May : Site → End → End → Type 0
May site input output = 0 < input.port.0 → 0 < output.port.0 → waiting_on output site.controller.queue ≡ []

pub record IsGood (controls : ℕ) (frames : List Frame) (site : Site) (cell : Cell) : Type 0 where
  pub low : cell.mark.packet ≡ 0 → cell.mark.frame ≤ controls
  pub asks : (s : Standing) (input output : End) → copy_under frames cell.mark ≡ Some s → leads s.request ≡ Some (input, output) → May site input output

pub contained : {A : Type 0} (P : A → Type 0) (xs : List A) (x : A) → Every P xs → Contains xs x → P x
contained P [] x all h = absurd (omega (arith, h.1))
contained P (y ∷ xs) x all (zero, low, e) = subst P e all.0
contained P (y ∷ xs) x all (suc k, low, e) = contained P xs x all.1 (k, omega (arith, low), e)

abbrev pub Led : (controls : ℕ) → List Frame → Site → switches.ActedSwitch → Type 0
Led controls frames site b = IsLed (May site) (IsGood controls frames site) controls frames b

pub begins_led : (controls : ℕ) (frames : List Frame) (site : Site) (a : switches.ActedSwitch) → a.switch ≡ site.switch → a.numbers.controls ≡ controls → a.notes.frames ≡ frames
    → HasMarks controls site → SitePassed frames site → Led controls frames site a
begins_led controls frames site a switch numbers notes m h = record {
  branches = λ input output e above on. h.on_branch input output above on (sym (ap (λ (z : switches.Switch). output_of z.crossbar.branches input) switch) ∙ e);
  chain = subst (λ (z : switches.Switch). Every (IsGood controls frames site) z.reassembly.chain) (sym switch)
      (every_contained (IsGood controls frames site) site.switch.reassembly.chain (λ cell k. record { low = m.chains cell k; asks = λ s input output copy e above on. h.in_chain input output s cell above on k copy e }));
  given = subst (λ (n : ℕ). controls ≤ n) (sym numbers) (self_le controls);
  asks = λ mark s none low e. subst (λ (fs : List Frame). copy_under fs mark ≡ Some s) notes e;
}
  where
    self_le : (n : ℕ) → n ≤ n
    self_le n = omega arith

pub switch_passed : (controls : ℕ) (old : List Frame) (site : Site) (b : switches.ActedSwitch) → AsksNothing b.notes.frames → Led controls old site b → HasMarks controls site → SitePassed old site
    → SitePassed b.notes.frames (record site { switch = b.switch })
switch_passed controls old site b nothing led m h = record {
  on_branch = λ input output above on e. led.branches input output e above on;
  in_chain = λ input output s cell above on k copy e.
      (let good : IsGood controls old site cell = contained (IsGood controls old site) b.switch.reassembly.chain cell led.chain k in
      good.asks s input output (asked_before controls old b.notes.frames nothing led.asks cell s good.low copy) e above on);
  behind = (stays controls old b.notes.frames nothing led.asks site m h).behind;
  asked = (stays controls old b.notes.frames nothing led.asks site m h).asked;
}

-- *A queue loses its head*
pub loses : (frames : List Frame) (site : Site) (place : Place) (cell : Cell) (cells : List Cell) → queue_in site place ≡ cell ∷ cells → SitePassed frames site → SitePassed frames (with_queue_in site place cells)
loses frames site (Down node) cell cells is h = record {
  on_branch = λ input output above on e. tail_on output cell cells (subst (λ (xs : List Cell). waiting_on output xs ≡ []) is (h.on_branch input output above on e));
  in_chain = λ input output s c above on k copy e. tail_on output cell cells (subst (λ (xs : List Cell). waiting_on output xs ≡ []) is (h.in_chain input output s c above on k copy e));
  behind = λ input output s before after c above on e copy led. h.behind input output s (cell ∷ before) after c above on (is ∙ ap (λ (xs : List Cell). cell ∷ xs) e) copy led;
  asked = λ c s k copy. h.asked c s (subst (λ (xs : List Cell). Contains xs c) (sym is) (in_tail cell c cells k)) copy;
}
loses frames site (Up node) cell cells is h = record { on_branch = h.on_branch; in_chain = h.in_chain; behind = h.behind; asked = h.asked }
loses frames site (Out node port) cell cells is h = record { on_branch = h.on_branch; in_chain = h.in_chain; behind = h.behind; asked = h.asked }
