-- what leads one label to another at a site: by a branch, at the desk, in the chain of the switch, or in the queue to it

use Rattle.std.proofs.Common.{◌≡◌, ℕ, zero, suc, Bool, true, false, List, [], ◌∷◌, ◌++◌, Option, None, Some, refl, sym, ◌∙◌, ap, subst, arith, Contains, if◌then◌else◌}
use Rattle.std.specs.Prelude.{filter, option_map}
use Rattle.std.specs.Option.{option_map_or, option_and_then}
use Rattle.law_causes.specs.world_model.Words.{End, NodeId, Place, Down, Cell, Frame, at, put, Standing, Controller, default_channel, same_channel, World, Site, site_key, site_at, queue_in, queue_at, requests_chain_at, on_channel, copy_under, leads}
use Rattle.law_world_views.proofs.law_port_facts.Keyed.{at_key, at_put_same}
use Rattle.law_causes.specs.world_model.crossbar_model.Crossbar.{output_of}
use Rattle.law_world_views.specs.Pairs.{Pairs, by_branch, by_desk, by_copy}
use Rattle.law_quiet_controllers.proofs.Beginning.{in_tail}

-- *Lists*
pub first_of : {A : Type 0} (x : A) (xs : List A) → Contains (x ∷ xs) x
first_of x xs = (0, omega arith, refl)

pub by_first : {A : Type 0} {P : Type 0} (x y : A) (xs : List A) → Contains (x ∷ xs) y → (x ≡ y → P) → (Contains xs y → P) → P
by_first x y xs (zero, low, e) here later = here e
by_first x y xs (suc k, low, e) here later = later (k, omega (arith, low), e)

pub in_left : {A : Type 0} (y : A) (xs ys : List A) → Contains xs y → Contains (xs ++ ys) y
in_left y [] ys h = absurd (omega (arith, h.1))
in_left y (x ∷ xs) ys h = by_first x y xs h (λ e. (0, omega arith, e)) (λ k. in_tail x y (xs ++ ys) (in_left y xs ys k))

pub in_right : {A : Type 0} (y : A) (xs ys : List A) → Contains ys y → Contains (xs ++ ys) y
in_right y [] ys h = h
in_right y (x ∷ xs) ys h = in_tail x y (xs ++ ys) (in_right y xs ys h)

pub in_either : {A : Type 0} {P : Type 0} (y : A) (xs ys : List A) → Contains (xs ++ ys) y → (Contains xs y → P) → (Contains ys y → P) → P
in_either y [] ys h left right = right h
in_either y (x ∷ xs) ys h left right = by_first x y (xs ++ ys) h (λ e. left (0, omega arith, e)) (λ k. in_either y xs ys k (λ l. left (in_tail x y xs l)) right)

pub in_filter : {A : Type 0} (test : A → Bool) (y : A) (xs : List A) → Contains xs y → test y ≡ true → Contains (filter test xs) y
in_filter test y [] h t = absurd (omega (arith, h.1))
in_filter {A} test y (x ∷ xs) h t = by_first x y xs h
    (λ e. subst (λ (b : Bool). Contains (if b then x ∷ filter test xs else filter test xs) y) (sym (ap test e ∙ t)) (0, omega arith, e))
    (λ k. by (test x) (in_filter test y xs k t))
  where
    by : (b : Bool) → Contains (filter test xs) y → Contains (if b then x ∷ filter test xs else filter test xs) y
    by true k = in_tail x y (filter test xs) k
    by false k = k

pub of_filter : {A : Type 0} (test : A → Bool) (y : A) (xs : List A) → Contains (filter test xs) y → Contains xs y × (test y ≡ true)
of_filter test y [] h = absurd (omega (arith, h.1))
of_filter {A} test y (x ∷ xs) h = by (test x) refl (λ k. of_filter test y xs k) h
  where
    by : (b : Bool) → test x ≡ b → (Contains (filter test xs) y → Contains xs y × (test y ≡ true)) → Contains (if b then x ∷ filter test xs else filter test xs) y → Contains (x ∷ xs) y × (test y ≡ true)
    by true t rest k = by_first x y (filter test xs) k (λ e. ((0, omega arith, e), ap test (sym e) ∙ t)) (λ l. (let r = rest l in (in_tail x y xs r.0, r.1)))
    by false t rest k = (let r = rest k in (in_tail x y xs r.0, r.1))

-- *What is found at a node*
abbrev pub led_by : (input : End) → Option Site → Option End
led_by input o = option_and_then (λ (site : Site). output_of site.switch.crossbar.branches input) o

abbrev pub standing_by : Option Site → List Standing
standing_by o = option_map_or (λ (c : Controller). c.desk.standing) (option_map (λ (site : Site). site.controller) o) []

abbrev pub gathered_by : Option Site → List Cell
gathered_by o = option_map_or (λ (site : Site). site.switch.reassembly.chain) o []

abbrev pub waiting_by : (place : Place) → Option Site → List Cell
waiting_by place o = option_map_or (λ (site : Site). queue_in site place) o []

-- *A site*
pub data SitePairs (frames : List Frame) (site : Site) (input output : End) : Type 0 where
  branch : output_of site.switch.crossbar.branches input ≡ Some output → SitePairs frames site input output
  desk : (s : Standing) → Contains site.controller.desk.standing s → leads s.request ≡ Some (input, output) → SitePairs frames site input output
  chain : (s : Standing) (cell : Cell) → Contains site.switch.reassembly.chain cell → copy_under frames cell.mark ≡ Some s → leads s.request ≡ Some (input, output) → SitePairs frames site input output
  queue : (s : Standing) (cell : Cell) → Contains site.controller.queue cell → same_channel cell.header.channel default_channel ≡ true → copy_under frames cell.mark ≡ Some s
      → leads s.request ≡ Some (input, output) → SitePairs frames site input output

module _ (w : World) (node : NodeId) (site : Site) (found : site_at w node ≡ Some site) (input output : End) where
  pub to_pairs : SitePairs w.notes.frames site input output → Pairs w node input output
  to_pairs (branch e) = by_branch (ap (led_by input) found ∙ e)
  to_pairs (desk s stands e) = by_desk s (subst (λ (xs : List Standing). Contains xs s) (sym (ap standing_by found)) stands) e
  to_pairs (chain s cell there copy e) = by_copy s cell (in_left cell (requests_chain_at w node) (on_channel default_channel (queue_at w (Down node)))
      (subst (λ (xs : List Cell). Contains xs cell) (sym (ap gathered_by found)) there)) copy e
  to_pairs (queue s cell there here copy e) = by_copy s cell (in_right cell (requests_chain_at w node) (on_channel default_channel (queue_at w (Down node)))
      (in_filter (λ (c : Cell). same_channel c.header.channel default_channel) cell (queue_at w (Down node)) (subst (λ (xs : List Cell). Contains xs cell) (sym (ap (waiting_by (Down node)) found)) there) here)) copy e

pub of_pairs : (w : World) (node : NodeId) (input output : End) → Pairs w node input output → (site : Site) × ((site_at w node ≡ Some site) × SitePairs w.notes.frames site input output)
of_pairs w node input output pair = by (site_at w node) refl
  where
    nothing : {A : Type 0} {P : Type 0} (x : A) → Contains [] x → P
    nothing x h = absurd (omega (arith, h.1))

    by : (o : Option Site) → site_at w node ≡ o → (site : Site) × ((o ≡ Some site) × SitePairs w.notes.frames site input output)
    by None found = none pair
      where
        none : Pairs w node input output → (site : Site) × ((None ≡ Some site) × SitePairs w.notes.frames site input output)
        none (by_branch e) = absurd (cc (sym (ap (led_by input) found) ∙ e))
        none (by_desk s stands e) = nothing s (subst (λ (xs : List Standing). Contains xs s) (ap standing_by found) stands)
        none (by_copy s cell there copy e) = in_either cell (requests_chain_at w node) (on_channel default_channel (queue_at w (Down node))) there
            (λ k. nothing cell (subst (λ (xs : List Cell). Contains xs cell) (ap gathered_by found) k))
            (λ k. nothing cell (subst (λ (xs : List Cell). Contains xs cell) (ap (waiting_by (Down node)) found) (of_filter (λ (c : Cell). same_channel c.header.channel default_channel) cell (queue_at w (Down node)) k).0))
    by (Some site) found = (site, (refl, some pair))
      where
        some : Pairs w node input output → SitePairs w.notes.frames site input output
        some (by_branch e) = branch (sym (ap (led_by input) found) ∙ e)
        some (by_desk s stands e) = desk s (subst (λ (xs : List Standing). Contains xs s) (ap standing_by found) stands) e
        some (by_copy s cell there copy e) = in_either cell (requests_chain_at w node) (on_channel default_channel (queue_at w (Down node))) there
            (λ k. chain s cell (subst (λ (xs : List Cell). Contains xs cell) (ap gathered_by found) k) copy e)
            (λ k. (let r = of_filter (λ (c : Cell). same_channel c.header.channel default_channel) cell (queue_at w (Down node)) k in
            queue s cell (subst (λ (xs : List Cell). Contains xs cell) (ap (waiting_by (Down node)) found) r.0) r.1 copy e))

-- *A site is put* in the place of one
pub put_there : (sites : List Site) (k : ℕ) (site after : Site) → at site_key k sites ≡ Some site → after.controller.node ≡ site.controller.node → at site_key k (put site_key after sites) ≡ Some after
put_there sites k site after found same =
    let key : site_key site ≡ k = at_key site_key k sites site found in
    let after_key : site_key after ≡ k = ap (λ (n : NodeId). n.0) same ∙ key in
    subst (λ (n : ℕ). at site_key n (put site_key after sites) ≡ Some after) after_key
    (at_put_same site_key after sites site (subst (λ (n : ℕ). at site_key n sites ≡ Some site) (sym after_key) found))
