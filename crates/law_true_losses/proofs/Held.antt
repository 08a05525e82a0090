-- what an event cut, of a whole network: at the site of the actor that it reached, and nowhere else

use Rattle.std.proofs.Common.{◌≡◌, ◌≢◌, ◌==◌, ◌&&◌, ℕ, suc, Bool, true, false, List, [], ◌∷◌, map, flat_map, Option, None, Some, refl, sym, ◌∙◌, ap, subst, if◌then◌else◌}
use Rattle.std.specs.Prelude.{not, count_by}
use Rattle.std.specs.Option.{option_map_or}
use Rattle.std.proofs.lemmas.List.Folds.{flat_map-map}
use Rattle.world_model.specs.Words.{NodeId, Place, Down, Up, Out, Cell, Entry, at, put, World, Site, site_key, site_at, place_node, with_queue, with_queue_in, with_queue_of}
use Rattle.world_model.proofs.Lists.{by_eq, at_key, at_put_same, at_put_other, count_here, count_there}
use Rattle.law_true_losses.specs.Cut.{Holder, OfBranch, OfSwitch, OfGsmp, OfDefault, OfLabel, same_holder, held_in, is_empty_list, is_over, is_given_up, Held, same_held, at_node, cut_entry, cut_entries}
use Rattle.law_true_losses.proofs.Cutting.{cuts_in}
use Rattle.law_true_losses.proofs.Sites.{SiteCuts, all_same, none_if}

-- *Tests*
pub test_same : (a b : ℕ) → a ≡ b → (a == b) ≡ true
test_same a b e = by_eq a b (λ same t. t) (λ away t. absurd (away e))

pub test_other : (a b : ℕ) → a ≢ b → (a == b) ≡ false
test_other a b apart = by_eq a b (λ same t. absurd (apart same)) (λ away t. t)

-- *What was cut between two worlds*
pub record CutAt (v w : World) (fed : Option Held) : Type 0 where
  pub cuts : List Held
  pub entries : cuts_in w.notes ≡ flat_map (cut_entries v) cuts
  pub each : (held : Held) → count_by (same_held held) cuts
      ≡ (if not (option_map_or (same_held held) fed false) && is_given_up (site_at v held.node) (site_at w held.node) held.holder then 1 else 0)

-- *Nothing is cut* at a site that is as it was
still : (o p : Option Site) (h : Holder) → p ≡ o → is_given_up o p h ≡ false
still None p h same = refl
still (Some site) p h same = ap (λ (o : Option Site). is_given_up (Some site) o h) same ∙ all_same site h

pub cut_nothing : (v w : World) (fed : Option Held) → cuts_in w.notes ≡ [] → w.sites ≡ v.sites → CutAt v w fed
cut_nothing v w fed none same = record {
  cuts = [];
  entries = none;
  each = λ held. sym (none_if (not (option_map_or (same_held held) fed false)) _ (still (site_at v held.node) (site_at w held.node) held.holder (ap (λ (sites : List Site). at site_key held.node.0 sites) same)));
}

-- *A site is put in the place of another*: what is so of both is so of all nodes as it was
pub put_alike : {A : Type 0} (f : Option Site → A) (sites : List Site) (site new : Site) → at site_key (site_key new) sites ≡ Some site → f (Some new) ≡ f (Some site) → (node : NodeId)
    → f (at site_key node.0 (put site_key new sites)) ≡ f (at site_key node.0 sites)
put_alike f sites site new found same node = by_eq (site_key new) node.0
    (λ here t. ap f (subst (λ (j : ℕ). at site_key j (put site_key new sites) ≡ Some new) here (at_put_same site_key new sites site found)) ∙ same
    ∙ sym (ap f (subst (λ (j : ℕ). at site_key j sites ≡ Some site) here found)))
    (λ away t. ap f (at_put_other site_key new node.0 sites away))

-- *At one site*
abbrev on : NodeId → Holder → Held
on node holder = record { node = node; holder = holder }

count_one : (node : NodeId) (held : Held) (h : Holder) (hs : List Holder) → held.node.0 ≡ node.0 → count_by (same_held held) (map (on node) hs) ≡ count_by (same_holder held.holder) hs → (b : Bool) → same_holder held.holder h ≡ b
    → count_by (same_held held) (on node h ∷ map (on node) hs) ≡ count_by (same_holder held.holder) (h ∷ hs)
count_one node held h hs here rest true t = count_here (same_held held) (on node h) (map (on node) hs) (ap (λ (b : Bool). b && same_holder held.holder h) (test_same held.node.0 node.0 here) ∙ t)
    ∙ ap suc rest ∙ sym (count_here (same_holder held.holder) h hs t)
count_one node held h hs here rest false t = count_there (same_held held) (on node h) (map (on node) hs) (ap (λ (b : Bool). b && same_holder held.holder h) (test_same held.node.0 node.0 here) ∙ t)
    ∙ rest ∙ sym (count_there (same_holder held.holder) h hs t)

count_at : (node : NodeId) (held : Held) (hs : List Holder) → held.node.0 ≡ node.0 → count_by (same_held held) (map (on node) hs) ≡ count_by (same_holder held.holder) hs
count_at node held [] here = refl
count_at node held (h ∷ hs) here = count_one node held h hs here (count_at node held hs here) (same_holder held.holder h) refl

count_away : (node : NodeId) (held : Held) (hs : List Holder) → held.node.0 ≢ node.0 → count_by (same_held held) (map (on node) hs) ≡ 0
count_away node held [] away = refl
count_away node held (h ∷ hs) away = count_there (same_held held) (on node h) (map (on node) hs) (ap (λ (b : Bool). b && same_holder held.holder h) (test_other held.node.0 node.0 away)) ∙ count_away node held hs away

fed_here : (node : NodeId) (held : Held) (fed : Option Holder) → held.node.0 ≡ node.0 → option_map_or (same_held held) (at_node node fed) false ≡ option_map_or (same_holder held.holder) fed false
fed_here node held None here = refl
fed_here node held (Some k) here = ap (λ (b : Bool). b && same_holder held.holder k) (test_same held.node.0 node.0 here)

module _ (v w : World) (node : NodeId) (site new : Site) (found : site_at v node ≡ Some site) (key : site_key new ≡ node.0) (sites : w.sites ≡ put site_key new v.sites) (fed : Option Holder)
    (c : SiteCuts fed site new w.notes) where
  found_new : at site_key (site_key new) v.sites ≡ Some site
  found_new = subst (λ (j : ℕ). at site_key j v.sites ≡ Some site) (sym key) found

  pub site_cuts : CutAt v w (at_node node fed)
  site_cuts = record {
    cuts = map (on node) c.cuts;
    entries = c.entries ∙ sym (ap (λ (o : Option Site). flat_map (λ (h : Holder). option_map_or (λ (s : Site). map cut_entry (held_in s h)) o []) c.cuts) found)
        ∙ sym (flat_map-map (cut_entries v) (on node) c.cuts);
    each = λ held. by_eq held.node.0 node.0 (λ here t. at_this held here) (λ away t. at_other held away);
  }
    where
      at_this : (held : Held) → held.node.0 ≡ node.0 → count_by (same_held held) (map (on node) c.cuts)
          ≡ (if not (option_map_or (same_held held) (at_node node fed) false) && is_given_up (site_at v held.node) (site_at w held.node) held.holder then 1 else 0)
      at_this held here =
          let before : site_at v held.node ≡ Some site = subst (λ (j : ℕ). at site_key j v.sites ≡ Some site) (sym here) found in
          let after : site_at w held.node ≡ Some new = ap (λ (all : List Site). at site_key held.node.0 all) sites
          ∙ subst (λ (j : ℕ). at site_key j (put site_key new v.sites) ≡ Some new) (key ∙ sym here) (at_put_same site_key new v.sites site found_new) in
          count_at node held c.cuts here ∙ c.each held.holder
          ∙ sym (ap {B = ℕ} (λ (b : Bool). if not b && is_given_up (site_at v held.node) (site_at w held.node) held.holder then 1 else 0) (fed_here node held fed here)
          ∙ ap {B = ℕ} (λ (o : Option Site). if not (option_map_or (same_holder held.holder) fed false) && is_given_up o (site_at w held.node) held.holder then 1 else 0) before
          ∙ ap {B = ℕ} (λ (o : Option Site). if not (option_map_or (same_holder held.holder) fed false) && is_given_up (Some site) o held.holder then 1 else 0) after)

      at_other : (held : Held) → held.node.0 ≢ node.0 → count_by (same_held held) (map (on node) c.cuts)
          ≡ (if not (option_map_or (same_held held) (at_node node fed) false) && is_given_up (site_at v held.node) (site_at w held.node) held.holder then 1 else 0)
      at_other held away = count_away node held c.cuts away
          ∙ sym (none_if (not (option_map_or (same_held held) (at_node node fed) false)) _ (still (site_at v held.node) (site_at w held.node) held.holder
          (ap (λ (all : List Site). at site_key held.node.0 all) sites ∙ at_put_other site_key new held.node.0 v.sites (λ same. away (sym same ∙ key)))))

-- *A queue holds other cells*: what holds open frames is the same
queue_held : (p : Place) (site : Site) (cells : List Cell) (h : Holder) → held_in (with_queue_in site p cells) h ≡ held_in site h
queue_held (Down node) site cells (OfBranch input) = refl
queue_held (Down node) site cells OfSwitch = refl
queue_held (Down node) site cells OfGsmp = refl
queue_held (Down node) site cells (OfDefault port) = refl
queue_held (Down node) site cells (OfLabel port label) = refl
queue_held (Up node) site cells (OfBranch input) = refl
queue_held (Up node) site cells OfSwitch = refl
queue_held (Up node) site cells OfGsmp = refl
queue_held (Up node) site cells (OfDefault port) = refl
queue_held (Up node) site cells (OfLabel port label) = refl
queue_held (Out node q) site cells (OfBranch input) = refl
queue_held (Out node q) site cells OfSwitch = refl
queue_held (Out node q) site cells OfGsmp = refl
queue_held (Out node q) site cells (OfDefault port) = refl
queue_held (Out node q) site cells (OfLabel port label) = refl

queue_over : (p : Place) (site after : Site) (cells : List Cell) (h : Holder) → is_over (with_queue_in site p cells) after h ≡ is_over site after h
queue_over (Down node) site after cells (OfBranch input) = refl
queue_over (Up node) site after cells (OfBranch input) = refl
queue_over (Out node q) site after cells (OfBranch input) = refl
queue_over p site after cells OfSwitch = refl
queue_over p site after cells OfGsmp = refl
queue_over p site after cells (OfDefault port) = refl
queue_over p site after cells (OfLabel port label) = refl

queue_given : (p : Place) (site : Site) (cells : List Cell) (after : Option Site) (h : Holder) → is_given_up (Some (with_queue_in site p cells)) after h ≡ is_given_up (Some site) after h
queue_given p site cells None h = refl
queue_given p site cells (Some after) h = ap (λ (marks : List _). not (is_empty_list marks) && is_over (with_queue_in site p cells) after h) (queue_held p site cells h)
    ∙ ap (λ (b : Bool). not (is_empty_list (held_in site h)) && b) (queue_over p site after cells h)

pub own_key : (p : Place) (site : Site) (cells : List Cell) → site_key (with_queue_in site p cells) ≡ site_key site
own_key (Down node) site cells = refl
own_key (Up node) site cells = refl
own_key (Out node port) site cells = refl

module _ (w : World) (source : Place) (cells : List Cell) where
  -- what is so of a site by what it holds is so of it then
  pub queue_alike : {A : Type 0} (f : Option Site → A) → ((site : Site) → f (Some (with_queue_in site source cells)) ≡ f (Some site)) → (node : NodeId) → f (site_at (with_queue w source cells) node) ≡ f (site_at w node)
  queue_alike {A} f same node = by (site_at w (place_node source)) refl
    where
      by : (o : Option Site) → site_at w (place_node source) ≡ o → f (site_at (with_queue_of w source cells o) node) ≡ f (site_at w node)
      by None found = refl
      by (Some site) found =
          let new : Site = with_queue_in site source cells in
          let key : site_key new ≡ (place_node source).0 = own_key source site cells ∙ at_key site_key (place_node source).0 w.sites site found in
          let here : at site_key (site_key new) w.sites ≡ Some site = subst (λ (j : ℕ). at site_key j w.sites ≡ Some site) (sym key) found in
          put_alike f w.sites site new here (same site) node

  pub cut_behind : (after : World) (fed : Option Held) → CutAt (with_queue w source cells) after fed → CutAt w after fed
  cut_behind after fed c = record {
    cuts = c.cuts;
    entries = c.entries ∙ each_entry c.cuts;
    each = λ held. c.each held ∙ ap {B = ℕ} (λ (b : Bool). if not (option_map_or (same_held held) fed false) && b then 1 else 0)
        (queue_alike (λ (o : Option Site). is_given_up o (site_at after held.node) held.holder) (λ site. queue_given source site cells (site_at after held.node) held.holder) held.node);
  }
    where
      one_entry : (held : Held) → cut_entries (with_queue w source cells) held ≡ cut_entries w held
      one_entry held = queue_alike (λ (o : Option Site). option_map_or (λ (s : Site). map cut_entry (held_in s held.holder)) o []) (λ site. ap (map cut_entry) (queue_held source site cells held.holder)) held.node

      each_entry : (cuts : List Held) → flat_map (cut_entries (with_queue w source cells)) cuts ≡ flat_map (cut_entries w) cuts
      each_entry cuts = ap (λ (f : Held → List Entry). flat_map f cuts) (λ i held. one_entry held i)
