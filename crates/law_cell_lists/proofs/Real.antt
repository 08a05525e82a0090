-- what is shown of the lists, and that each change of it keeps what holds of them. Of the lists that lead to one, at
-- most one may be another than its home; a home yields to it, and is empty then.

use Rattle.std.proofs.Common.{◌≡◌, ◌≢◌, Bool, true, false, true≢false, List, [], ◌∷◌, ◌++◌, map, Option, None, Some, refl, sym, ◌∙◌, ap, subst, ◌⊎◌, inl, inr}
use Rattle.world_model.specs.Words.{Mark, Cell, Entry, Journal, Reassembly, nothing_taken, cut, tested, unfinished_after}
use Rattle.world_model.specs.frame_model.Reassembly.{Taken, taken}
use Rattle.law_cell_lists.specs.Causes.{has_cause, bare}
use Rattle.law_cell_lists.proofs.Frames.{IsWhole}
use Rattle.law_cell_lists.proofs.Streams.{IsTorn}
use Rattle.law_cell_lists.proofs.Taking.{Rest, begins_anew, IsTaker, taker_tests, Adds, stretch_after}
use Rattle.law_cell_lists.proofs.Net.{Grown, HasCut, End, Takes, Leads, Nowhere, Closed, Line, set, set_cases, IsEnd, IsFed, IsNet, MaySend, Refed, NetOver, net_noted, net_sends, net_loses, net_takes, net_cut, net_over, net_ends, net_opens, net_closes, net_quiet, net_feeds, net_turns}

module _ {K : Type 0} (same : (a b : K) → (a ≡ b) ⊎ (a ≢ b)) (yields : K → Bool) (home : K → K) where
  -- a list as it is shown: its cells, and what takes them
  pub record Shown : Type 0 where
    pub cells : List Cell
    pub end : End same

  -- *Order*: of the lists that lead to one, a single one isn't its home; to a home none leads; and a home that another
  -- leads beside is empty
  pub record AreApart (b : K → Shown) : Type 0 where
    pub once : (j k o : K) (u v : Option Mark) → yields j ≡ false → yields k ≡ false → (b j).end ≡ Leads o u → (b k).end ≡ Leads o v → j ≡ k
    pub at_home : (k o : K) (u : Option Mark) → yields k ≡ true → (b k).end ≡ Leads o u → k ≡ home o
    pub unled : (j k : K) (u : Option Mark) → yields k ≡ true → (b j).end ≢ Leads k u

  abbrev pub AreQuiet : (K → Shown) → Type 0
  AreQuiet b = (j k o : K) (u v : Option Mark) → yields j ≡ false → yields k ≡ true → (b j).end ≡ Leads o u → (b k).end ≡ Leads o v → (b k).cells ≡ []

  -- *What holds*: the lists are what is shown, with a stretch each; who leads to a list and isn't its home feeds it, and
  -- where any leads to it, one feeds it
  pub record IsReal (entries : List Entry) (begun : K → List Cell) (b : K → Shown) : Type 0 where
    pub feeder : K → Option K
    pub lines : K → Line same
    pub cells : (k : K) → (lines k).cells ≡ (b k).cells
    pub ends : (k : K) → (lines k).end ≡ (b k).end
    pub stretch : (k : K) → (lines k).begun ≡ begun k
    pub net : IsNet same entries feeder lines
    pub first : (k o : K) (u : Option Mark) → (b k).end ≡ Leads o u → yields k ≡ false → feeder o ≡ Some k
    pub some : (k o : K) (u : Option Mark) → (b k).end ≡ Leads o u → (j : K) × (feeder o ≡ Some j)

  -- the feeder of a list leads to it
  pub feeder_leads : (entries : List Entry) (begun : K → List Cell) (b : K → Shown) (r : IsReal entries begun b) (o k : K) → r.feeder o ≡ Some k → (u : Option Mark) × ((b k).end ≡ Leads o u)
  feeder_leads entries begun b r o k e =
      let f : IsFed same entries o k (r.lines o) (r.lines k) = r.net.feeds o k e in
      (f.mark, sym (r.ends k) ∙ f.leads)

  -- nobody feeds a list to which none leads
  pub unfed : (entries : List Entry) (begun : K → List Cell) (b : K → Shown) (r : IsReal entries begun b) (k : K) → ((j : K) (u : Option Mark) → (b j).end ≢ Leads k u) → r.feeder k ≡ None
  unfed entries begun b r k none = by (r.feeder k) refl
    where
      by : (o : Option K) → r.feeder k ≡ o → o ≡ None
      by None e = refl
      by (Some j) e = (let f = feeder_leads entries begun b r k j e in absurd (none j f.0 f.1))

  -- *More entries*, and what is shown alike
  pub real_grown : (old new : List Entry) (begun : K → List Cell) (b : K → Shown) → Grown old new → IsReal old begun b → IsReal new begun b
  real_grown old new begun b g r = record {
    feeder = r.feeder;
    lines = r.lines;
    cells = r.cells;
    ends = r.ends;
    stretch = r.stretch;
    net = subst (λ (l : List Entry). IsNet same l r.feeder r.lines) (sym g.is) (net_noted same old g.more r.feeder r.lines r.net);
    first = r.first;
    some = r.some;
  }

  pub real_alike : (entries : List Entry) (begun now : K → List Cell) (b d : K → Shown) → ((k : K) → (d k).cells ≡ (b k).cells) → ((k : K) → (d k).end ≡ (b k).end) → ((k : K) → now k ≡ begun k)
      → IsReal entries begun b → IsReal entries now d
  real_alike entries begun now b d cells ends nows r = record {
    feeder = r.feeder;
    lines = r.lines;
    cells = λ k. r.cells k ∙ sym (cells k);
    ends = λ k. r.ends k ∙ sym (ends k);
    stretch = λ k. r.stretch k ∙ sym (nows k);
    net = r.net;
    first = λ k o u e y. r.first k o u (sym (ends k) ∙ e) y;
    some = λ k o u e. r.some k o u (sym (ends k) ∙ e);
  }

  -- *One list changes*, and what takes its front leads where it led
  abbrev pub Elsewhere : (b d : K → Shown) (begun now : K → List Cell) → K → Type 0
  Elsewhere b d begun now k = (j : K) → k ≢ j → ((d j).cells ≡ (b j).cells) × ((d j).end ≡ (b j).end) × (now j ≡ begun j)

  -- a line is put, and shown
  put_line : {A : Type 0} (get : Line same → A) (w : K → Line same) (k : K) (l : Line same) (x : K → A) → get l ≡ x k → ((j : K) → k ≢ j → get (w j) ≡ x j) → (j : K) → get (set same w k l j) ≡ x j
  put_line get w k l x here there j = set_cases same (λ (y : Line same). get y ≡ x j) w k l j (λ e. subst (λ i. get l ≡ x i) e here) (λ n. there j n)

  -- an end that leads where another does
  leads_alike : (b d : K → Shown) (k : K) → ((o : K) (u : Option Mark) → (d k).end ≡ Leads o u → (v : Option Mark) × ((b k).end ≡ Leads o v)) → ((j : K) → k ≢ j → (d j).end ≡ (b j).end)
      → (j o : K) (u : Option Mark) → (d j).end ≡ Leads o u → (v : Option Mark) × ((b j).end ≡ Leads o v)
  leads_alike b d k here there j o u e = elim (same k j) [
    | inl i ↦ (let h = here o u (ap (λ (x : K). (d x).end) i ∙ e) in (h.0, ap (λ (x : K). (b x).end) (sym i) ∙ h.1))
    | inr n ↦ (u, sym (there j n) ∙ e)
  ]

  real_put : (old entries : List Entry) (begun now : K → List Cell) (b d : K → Shown) (k : K) (l : Line same) (r : IsReal old begun b) → l.cells ≡ (d k).cells → l.end ≡ (d k).end → l.begun ≡ now k
      → Elsewhere b d begun now k → ((o : K) (u : Option Mark) → (d k).end ≡ Leads o u → (v : Option Mark) × ((b k).end ≡ Leads o v))
      → IsNet same entries r.feeder (set same r.lines k l) → IsReal entries now d
  real_put old entries begun now b d k l r cells end was away leads net =
      let led = leads_alike b d k leads (λ j n. (away j n).1) in
      record {
        feeder = r.feeder;
        lines = set same r.lines k l;
        cells = put_line (λ (x : Line same). x.cells) r.lines k l (λ j. (d j).cells) cells (λ j n. r.cells j ∙ sym (away j n).0);
        ends = put_line (λ (x : Line same). x.end) r.lines k l (λ j. (d j).end) end (λ j n. r.ends j ∙ sym (away j n).1);
        stretch = put_line (λ (x : Line same). x.begun) r.lines k l now was (λ j n. r.stretch j ∙ sym (away j n).2);
        net = net;
        first = λ j o u e y. (let h = led j o u e in r.first j o h.0 h.1 y);
        some = λ j o u e. (let h = led j o u e in r.some j o h.0 h.1);
      }

  -- who may be given cells: a list that leads nowhere, or feeds where it leads
  abbrev pub Feeds : (entries : List Entry) (begun : K → List Cell) (b : K → Shown) → IsReal entries begun b → K → Type 0
  Feeds entries begun b r k = (o : K) (u : Option Mark) → (b k).end ≡ Leads o u → r.feeder o ≡ Some k

  may_send : (feeder : K → Option K) (k : K) (e : End same) → ((o : K) (u : Option Mark) → e ≡ Leads o u → feeder o ≡ Some k) → MaySend same feeder k e
  may_send feeder k (Takes r) f = tt
  may_send feeder k Nowhere f = tt
  may_send feeder k Closed f = tt
  may_send feeder k (Leads o u) f = f o u refl

  -- or another one leads there, beside it
  pub record Clashes (b : K → Shown) (k : K) : Type 0 where
    pub other : K
    pub to : K
    pub own : Option Mark
    pub others : Option Mark
    pub yields_not : yields other ≡ false
    pub yields_own : yields k ≡ true
    pub leads : (b k).end ≡ Leads to own
    pub leads_other : (b other).end ≡ Leads to others

  pub feeds_or_clashes : (entries : List Entry) (begun : K → List Cell) (b : K → Shown) (r : IsReal entries begun b) → AreApart b → (k : K) → Feeds entries begun b r k ⊎ Clashes b k
  feeds_or_clashes entries begun b r apart k = by_end (b k).end refl
    where
      one : (o : K) (u : Option Mark) → (b k).end ≡ Leads o u → r.feeder o ≡ Some k → Feeds entries begun b r k
      one o u is e p v leads = (let both : Leads o u ≡ Leads p v = sym is ∙ leads in let to : o ≡ p = cc in ap r.feeder (sym to) ∙ e)

      by_feeder : (o : K) (u : Option Mark) → (b k).end ≡ Leads o u → yields k ≡ true → (j : K) → r.feeder o ≡ Some j → (v : Bool) → yields j ≡ v → Feeds entries begun b r k ⊎ Clashes b k
      by_feeder o u is own j e true y =
          let f = feeder_leads entries begun b r o j e in
          let k_is : k ≡ j = apart.at_home k o u own is ∙ sym (apart.at_home j o f.0 y f.1) in
          inl (one o u is (e ∙ ap (λ (x : K). Some x) (sym k_is)))
      by_feeder o u is own j e false y =
          let f = feeder_leads entries begun b r o j e in
          inr (record { other = j; to = o; own = u; others = f.0; yields_not = y; yields_own = own; leads = is; leads_other = f.1 })

      by_leads : (o : K) (u : Option Mark) → (b k).end ≡ Leads o u → (v : Bool) → yields k ≡ v → Feeds entries begun b r k ⊎ Clashes b k
      by_leads o u is true y = (let s = r.some k o u is in by_feeder o u is y s.0 s.1 (yields s.0) refl)
      by_leads o u is false y = inl (one o u is (r.first k o u is y))

      by_end : (e : End same) → (b k).end ≡ e → Feeds entries begun b r k ⊎ Clashes b k
      by_end (Takes x) is = inl (λ o u e. absurd (let clash : Takes x ≡ Leads o u = sym is ∙ e in cc clash))
      by_end Nowhere is = inl (λ o u e. absurd (let clash : Nowhere ≡ Leads o u = sym is ∙ e in cc clash))
      by_end Closed is = inl (λ o u e. absurd (let clash : Closed ≡ Leads o u = sym is ∙ e in cc clash))
      by_end (Leads o u) is = by_leads o u is (yields k) refl

  -- *A whole frame is sent*
  pub real_sends : (entries : List Entry) (begun : K → List Cell) (b d : K → Shown) (k : K) (c : Cell) (frame : List Cell) (r : IsReal entries begun b)
      → ((j : K) (u : Option Mark) → (b j).end ≢ Leads k u) → Feeds entries begun b r k → IsWhole (map bare (c ∷ frame))
      → (d k).cells ≡ (b k).cells ++ c ∷ frame → (d k).end ≡ (b k).end → Elsewhere b d begun begun k → IsReal entries begun d
  real_sends entries begun b d k c frame r unled feeds whole cells end away =
      let l : Line same = r.lines k in
      let line : Line same = record l { cells = l.cells ++ c ∷ frame; back = [] } in
      real_put entries entries begun begun b d k line r (ap (λ (x : List Cell). x ++ c ∷ frame) (r.cells k) ∙ sym cells) (r.ends k ∙ sym end) (r.stretch k) away
      (λ o u e. (u, sym end ∙ e))
      (net_sends same entries r.feeder r.lines k c frame (unfed entries begun b r k unled)
      (may_send r.feeder k l.end (λ o u e. feeds o u (sym (r.ends k) ∙ e))) whole r.net)

  -- *The next cell is lost*, and its entry stands
  pub real_loses : (entries : List Entry) (begun : K → List Cell) (b d : K → Shown) (k : K) (c : Cell) (cells : List Cell) (r : IsReal entries begun b) → (b k).cells ≡ c ∷ cells → has_cause entries c.mark ≡ true
      → (d k).cells ≡ cells → (d k).end ≡ (b k).end → Elsewhere b d begun begun k → IsReal entries begun d
  real_loses entries begun b d k c cells r is lost left end away =
      let l : Line same = r.lines k in
      let n = net_loses same entries r.feeder r.lines k c cells (r.cells k ∙ is) lost r.net in
      real_put entries entries begun begun b d k (record l { cells = cells; front = n.0 }) r (sym left) (r.ends k ∙ sym end) (r.stretch k) away (λ o u e. (u, sym end ∙ e)) n.1

  -- *A reassembly takes it*; each entry Broken that this adds, and that the test of the chain adds that it may end,
  -- stands beside a cause
  pub record TakesReal (notes : Journal) (begun now : K → List Cell) (d : K → Shown) (k : K) (c : Cell) (t : Taken) : Type 0 where
    pub real : IsReal t.notes.entries now d
    pub adds : Adds (begun k ++ c ∷ []) notes.entries t.notes.entries
    pub tests : c.header.last ≡ true → Adds (begun k ++ c ∷ []) notes.entries (tested notes (begun k ++ c ∷ [])).notes.entries

  pub real_takes : (notes : Journal) (has_slot : Bool) (begun now : K → List Cell) (b d : K → Shown) (k : K) (x : Reassembly) (c : Cell) (cells : List Cell) (r : IsReal notes.entries begun b)
      → (b k).end ≡ Takes x → (b k).cells ≡ c ∷ cells
      → (d k).cells ≡ cells → (d k).end ≡ Takes (taken notes has_slot x c).reassembly → now k ≡ stretch_after (begun k) c → Elsewhere b d begun now k
      → TakesReal notes begun now d k c (taken notes has_slot x c)
  real_takes notes has_slot begun now b d k x c cells r by is left end was away =
      let l : Line same = r.lines k in
      let t : Taken = taken notes has_slot x c in
      let at : l.end ≡ Takes x = r.ends k ∙ by in
      let n = net_takes same notes has_slot r.feeder r.lines k x c cells at (r.cells k ∙ is) r.net in
      let taker : IsTaker notes.entries l.begun x l.front = subst (IsEnd same notes.entries r.feeder k l) at (r.net.line k).ends in
      record {
        real = real_put notes.entries t.notes.entries begun now b d k (record l { cells = cells; front = n.next; end = Takes t.reassembly; begun = stretch_after l.begun c }) r
            (sym left) (sym end) (ap (λ (s : List Cell). stretch_after s c) (r.stretch k) ∙ sym was) away
            (λ o u e. absurd (let clash : Takes t.reassembly ≡ Leads o u = sym end ∙ e in cc clash)) n.net;
        adds = subst (λ (s : List Cell). Adds (s ++ c ∷ []) notes.entries t.notes.entries) (r.stretch k) n.adds;
        tests = λ last. subst (λ (s : List Cell). Adds (s ++ c ∷ []) notes.entries (tested notes (s ++ c ∷ [])).notes.entries) (r.stretch k) (taker_tests notes l.begun l.front c n.next last taker.stretch n.step);
      }

  -- *A channel is cut*
  pub real_cuts : (notes : Journal) (begun now : K → List Cell) (b d : K → Shown) (k : K) (x : Reassembly) (r : IsReal notes.entries begun b) → (b k).end ≡ Takes x → Grown notes.entries (cut notes x).entries
      → (d k).cells ≡ (b k).cells → (d k).end ≡ Takes nothing_taken → now k ≡ [] → Elsewhere b d begun now k → IsReal (cut notes x).entries now d
  real_cuts notes begun now b d k x r by g cells end was away =
      let l : Line same = r.lines k in
      real_put notes.entries (cut notes x).entries begun now b d k (record l { end = Takes nothing_taken; begun = [] }) r (r.cells k ∙ sym cells) (sym end) (sym was) away
      (λ o u e. absurd (let clash : Takes nothing_taken ≡ Leads o u = sym end ∙ e in cc clash))
      (net_cut same notes r.feeder r.lines k x (r.ends k ∙ by) g r.net)

  -- *A channel is taken from now on*, or no more
  pub real_opens : (entries : List Entry) (begun now : K → List Cell) (b d : K → Shown) (k : K) (r : IsReal entries begun b) → (b k).end ≡ Closed
      → (d k).cells ≡ (b k).cells → (d k).end ≡ Takes nothing_taken → now k ≡ [] → Elsewhere b d begun now k → IsReal entries now d
  real_opens entries begun now b d k r by cells end was away =
      let l : Line same = r.lines k in
      real_put entries entries begun now b d k (record l { end = Takes nothing_taken; begun = [] }) r (r.cells k ∙ sym cells) (sym end) (sym was) away
      (λ o u e. absurd (let clash : Takes nothing_taken ≡ Leads o u = sym end ∙ e in cc clash))
      (net_opens same entries r.feeder r.lines k (r.ends k ∙ by) r.net)

  pub real_closes : (entries : List Entry) (begun now : K → List Cell) (b d : K → Shown) (k : K) (r : IsReal entries begun b) → (b k).end ≡ Takes nothing_taken → begun k ≡ []
      → (d k).cells ≡ (b k).cells → (d k).end ≡ Closed → now k ≡ [] → Elsewhere b d begun now k → IsReal entries now d
  real_closes entries begun now b d k r by none cells end was away =
      let l : Line same = r.lines k in
      real_put entries entries begun now b d k (record l { end = Closed }) r (r.cells k ∙ sym cells) (sym end) (r.stretch k ∙ none ∙ sym was) away
      (λ o u e. absurd (let clash : Closed ≡ Leads o u = sym end ∙ e in cc clash))
      (net_closes same entries r.feeder r.lines k (r.ends k ∙ by) (r.stretch k ∙ none) r.net)

  -- *A cell goes over* to the end of another list
  pub real_over : (entries : List Entry) (begun : K → List Cell) (b d : K → Shown) (k o : K) (u : Option Mark) (c e : Cell) (cells : List Cell) (r : IsReal entries begun b) → AreApart b
      → (b k).end ≡ Leads o u → (b k).cells ≡ c ∷ cells → bare e ≡ bare c → k ≢ o
      → (d k).cells ≡ cells → (d k).end ≡ Leads o (unfinished_after c) → (d o).cells ≡ (b o).cells ++ e ∷ [] → (d o).end ≡ (b o).end
      → ((j : K) → k ≢ j → o ≢ j → ((d j).cells ≡ (b j).cells) × ((d j).end ≡ (b j).end)) → IsReal entries begun d
  real_over entries begun b d k o u c e cells r apart by is bares far left end more kept away =
      let w : K → Line same = r.lines in
      let given : yields o ≡ false = unyielding (yields o) refl in
      let n : NetOver same entries r.feeder w k o c e cells = net_over same entries r.feeder w k o u c e cells (r.ends k ∙ by) (r.cells k ∙ is) bares far
      (may_send r.feeder o (w o).end (λ p v led. r.first o p v (sym (r.ends o) ∙ led) given)) r.net in
      let front : Line same = record (w k) { cells = cells; front = n.next; end = Leads o (unfinished_after c) } in
      let behind : Line same = record (w o) { cells = (w o).cells ++ e ∷ []; back = n.other } in
      let led = leads_alike b d k (λ p v leads. (u, by ∙ ap (λ (x : K). Leads x u) (let both : Leads o (unfinished_after c) ≡ Leads p v = sym end ∙ leads in let to : o ≡ p = cc in to))) others in
      record {
        feeder = r.feeder;
        lines = set same (set same w k front) o behind;
        cells = λ j. put_line (λ (x : Line same). x.cells) (set same w k front) o behind (λ i. (d i).cells) (ap (λ (x : List Cell). x ++ e ∷ []) (r.cells o) ∙ sym more)
            (λ i n_o. set_cases same (λ (x : Line same). x.cells ≡ (d i).cells) w k front i (λ at. sym left ∙ ap (λ (x : K). (d x).cells) at) (λ n_k. r.cells i ∙ sym (away i n_k n_o).0)) j;
        ends = λ j. put_line (λ (x : Line same). x.end) (set same w k front) o behind (λ i. (d i).end) (r.ends o ∙ sym kept)
            (λ i n_o. set_cases same (λ (x : Line same). x.end ≡ (d i).end) w k front i (λ at. sym end ∙ ap (λ (x : K). (d x).end) at) (λ n_k. r.ends i ∙ sym (away i n_k n_o).1)) j;
        stretch = λ j. put_line (λ (x : Line same). x.begun) (set same w k front) o behind begun (r.stretch o)
            (λ i n_o. set_cases same (λ (x : Line same). x.begun ≡ begun i) w k front i (λ at. ap (λ (x : K). (w x).begun) at ∙ r.stretch i) (λ n_k. r.stretch i)) j;
        net = n.net;
        first = λ j p v leads y. (let h = led j p v leads in r.first j p h.0 h.1 y);
        some = λ j p v leads. (let h = led j p v leads in r.some j p h.0 h.1);
      }
    where
      unyielding : (v : Bool) → yields o ≡ v → v ≡ false
      unyielding false y = refl
      unyielding true y = absurd (apart.unled k o u y by)

      others : (j : K) → k ≢ j → (d j).end ≡ (b j).end
      others j n = elim (same o j) [
        | inl i ↦ ap (λ (x : K). (d x).end) (sym i) ∙ kept ∙ ap (λ (x : K). (b x).end) i
        | inr n_o ↦ (away j n n_o).1
      ]

  -- *The feeder of one list becomes another*
  abbrev chosen : {k j : K} → (k ≡ j) ⊎ (k ≢ j) → Option K → Option K → Option K
  chosen (inl _) x y = x
  chosen (inr _) x y = y

  abbrev refed : (K → Option K) → K → Option K → K → Option K
  refed feeder o to j = chosen (same o j) to (feeder j)

  chosen_here : {k j : K} (t : (k ≡ j) ⊎ (k ≢ j)) (x y : Option K) → k ≡ j → chosen t x y ≡ x
  chosen_here (inl _) x y e = refl
  chosen_here (inr n) x y e = absurd (n e)

  chosen_there : {k j : K} (t : (k ≡ j) ⊎ (k ≢ j)) (x y : Option K) → k ≢ j → chosen t x y ≡ y
  chosen_there (inl e) x y n = absurd (n e)
  chosen_there (inr _) x y n = refl

  refed_is : (feeder : K → Option K) (o : K) (to : Option K) → Refed same feeder (refed feeder o to) o to
  refed_is feeder o to = (chosen_here (same o o) to (feeder o) refl, λ j n. chosen_there (same o j) to (feeder j) n)

  leads_two : (b : K → Shown) (k o p : K) (u v : Option Mark) → (b k).end ≡ Leads o u → (b k).end ≡ Leads p v → o ≡ p
  leads_two b k o p u v e f = (let both : Leads o u ≡ Leads p v = sym e ∙ f in cc)

  -- *A branch ends*, and the frame that was open on it has a cause
  module _ (entries : List Entry) (begun : K → List Cell) (b d : K → Shown) (k o : K) (u : Option Mark) (r : IsReal entries begun b) (apart : AreApart b) (by : (b k).end ≡ Leads o u)
      (cells : (d k).cells ≡ (b k).cells) (end : (d k).end ≡ Nowhere) (away : (j : K) → k ≢ j → ((d j).cells ≡ (b j).cells) × ((d j).end ≡ (b j).end)) where
    ended : Line same
    ended = record (r.lines k) { end = Nowhere }

    not_here : (i p : K) (v : Option Mark) → (d i).end ≡ Leads p v → k ≢ i
    not_here i p v e at = (let clash : Nowhere ≡ Leads p v = sym end ∙ ap (λ (x : K). (d x).end) at ∙ e in cc clash)

    still : (i p : K) (v : Option Mark) → (d i).end ≡ Leads p v → (b i).end ≡ Leads p v
    still i p v e = sym (away i (not_here i p v e)).1 ∙ e

    module _ (fed : r.feeder o ≡ Some k) where
      abbrev freed : K → Option K
      freed = refed r.feeder o None

      -- whoever leads there now is its home
      left_home : (i : K) (v : Option Mark) → (d i).end ≡ Leads o v → (t : Bool) → yields i ≡ t → (yields i ≡ true) × (i ≡ home o)
      left_home i v e true y = (y, apart.at_home i o v y (still i o v e))
      left_home i v e false y = absurd (let clash : Some k ≡ Some i = sym fed ∙ r.first i o v (still i o v e) y in let at : k ≡ i = cc in not_here i o v e at)

      kept_feeder : (i p : K) → o ≢ p → r.feeder p ≡ Some i → freed p ≡ Some i
      kept_feeder i p far e = (refed_is r.feeder o None).1 p far ∙ e

      -- nobody leads there now
      frees : HasCut entries u → ((i : K) (v : Option Mark) → (d i).end ≢ Leads o v) → IsReal entries begun d
      unfolding ended
      frees is_cut none = record {
        feeder = freed;
        lines = set same r.lines k ended;
        cells = put_line (λ (x : Line same). x.cells) r.lines k ended (λ j. (d j).cells) (r.cells k ∙ sym cells) (λ j n. r.cells j ∙ sym (away j n).0);
        ends = put_line (λ (x : Line same). x.end) r.lines k ended (λ j. (d j).end) (sym end) (λ j n. r.ends j ∙ sym (away j n).1);
        stretch = put_line (λ (x : Line same). x.begun) r.lines k ended begun (r.stretch k) (λ j n. r.stretch j);
        net = net_ends same entries r.feeder freed r.lines k o u (r.ends k ∙ by) fed is_cut (refed_is r.feeder o None) r.net;
        first = λ i p v e y. kept_feeder i p (λ at. none i v (subst (λ (x : K). (d i).end ≡ Leads x v) (sym at) e)) (r.first i p v (still i p v e) y);
        some = λ i p v e. (let s = r.some i p v (still i p v e) in (s.0, kept_feeder s.0 p (λ at. none i v (subst (λ (x : K). (d i).end ≡ Leads x v) (sym at) e)) s.1));
      }

      -- the home leads there, and feeds it again
      module _ (is_cut : HasCut entries u) (v : Option Mark) (there : (d (home o)).end ≡ Leads o v) (own : yields (home o) ≡ true) where
        abbrev between : K → Line same
        between = set same r.lines k ended

        abbrev again : K → Option K
        again = refed freed o (Some (home o))

        cut_net : IsNet same entries freed between
        unfolding ended
        cut_net = net_ends same entries r.feeder freed r.lines k o u (r.ends k ∙ by) fed is_cut (refed_is r.feeder o None) r.net

        between_end : (j : K) → (between j).end ≡ (d j).end
        unfolding ended
        between_end = put_line (λ (x : Line same). x.end) r.lines k ended (λ j. (d j).end) (sym end) (λ j n. r.ends j ∙ sym (away j n).1)

        home_torn : (e : End same) → e ≡ Leads o v → IsEnd same entries freed (home o) (between (home o)) e → IsTorn entries (between (home o)).front
        home_torn e is h = by_cases (subst (IsEnd same entries freed (home o) (between (home o))) is h)
          where
            by_cases : IsEnd same entries freed (home o) (between (home o)) (Leads o v) → IsTorn entries (between (home o)).front
            by_cases (inl f) = absurd (let clash : None ≡ Some (home o) = sym (refed_is r.feeder o None).0 ∙ f in cc clash)
            by_cases (inr q) = q.1

        idle : (p : K) → freed p ≢ Some (home o)
        idle p f =
            let leads : (between (home o)).end ≡ Leads p (cut_net.feeds p (home o) f).mark = (cut_net.feeds p (home o) f).leads in
            let both : Leads o v ≡ Leads p (cut_net.feeds p (home o) f).mark = sym (between_end (home o) ∙ there) ∙ leads in
            let to : o ≡ p = cc in
            let clash : None ≡ Some (home o) = sym (refed_is r.feeder o None).0 ∙ ap freed to ∙ f in
            cc clash

        abbrev fed_again : Line same
        fed_again = record (between (home o)) { end = Leads o v }

        returns_home : IsReal entries begun d
        unfolding ended
        returns_home = record {
          feeder = again;
          lines = set same between (home o) fed_again;
          cells = put_line (λ (x : Line same). x.cells) between (home o) fed_again (λ j. (d j).cells)
              (put_line (λ (x : Line same). x.cells) r.lines k ended (λ j. (d j).cells) (r.cells k ∙ sym cells) (λ j n. r.cells j ∙ sym (away j n).0) (home o))
              (λ i n. put_line (λ (x : Line same). x.cells) r.lines k ended (λ j. (d j).cells) (r.cells k ∙ sym cells) (λ j m. r.cells j ∙ sym (away j m).0) i);
          ends = put_line (λ (x : Line same). x.end) between (home o) fed_again (λ j. (d j).end) (sym there) (λ i n. between_end i);
          stretch = put_line (λ (x : Line same). x.begun) between (home o) fed_again begun
              (put_line (λ (x : Line same). x.begun) r.lines k ended begun (r.stretch k) (λ j n. r.stretch j) (home o))
              (λ i n. put_line (λ (x : Line same). x.begun) r.lines k ended begun (r.stretch k) (λ j m. r.stretch j) i);
          net = net_feeds same entries freed again between (home o) o v (home_torn (between (home o)).end (between_end (home o) ∙ there) (cut_net.line (home o)).ends) idle
              (refed_is r.feeder o None).0 (refed_is freed o (Some (home o))) cut_net;
          first = λ i p x e y. elim (same o p) [
            | inl at ↦ absurd (
                let led : (d i).end ≡ Leads o x = subst (λ (z : K). (d i).end ≡ Leads z x) (sym at) e in
                true≢false (sym (left_home i x led (yields i) refl).0 ∙ y))
            | inr far ↦ (refed_is freed o (Some (home o))).1 p far ∙ kept_feeder i p far (r.first i p x (still i p x e) y)
          ];
          some = λ i p x e. elim (same o p) [
            | inl at ↦ (home o, ap again (sym at) ∙ (refed_is freed o (Some (home o))).0)
            | inr far ↦ (let s = r.some i p x (still i p x e) in (s.0, (refed_is freed o (Some (home o))).1 p far ∙ kept_feeder s.0 p far s.1))
          ];
        }

      by_home : HasCut entries u → (e : End same) → (d (home o)).end ≡ e → (t : Bool) → yields (home o) ≡ t → IsReal entries begun d
      by_home is_cut e is false y = frees is_cut (λ i v led. (let h = left_home i v led (yields i) refl in true≢false (sym h.0 ∙ ap yields h.1 ∙ y)))
      by_home is_cut (Takes x) is true y = frees is_cut (λ i v led. (let h = left_home i v led (yields i) refl in
          let clash : Takes x ≡ Leads o v = sym is ∙ ap (λ (z : K). (d z).end) (sym h.1) ∙ led in cc clash))
      by_home is_cut Nowhere is true y = frees is_cut (λ i v led. (let h = left_home i v led (yields i) refl in
          let clash : Nowhere ≡ Leads o v = sym is ∙ ap (λ (z : K). (d z).end) (sym h.1) ∙ led in cc clash))
      by_home is_cut Closed is true y = frees is_cut (λ i v led. (let h = left_home i v led (yields i) refl in
          let clash : Closed ≡ Leads o v = sym is ∙ ap (λ (z : K). (d z).end) (sym h.1) ∙ led in cc clash))
      by_home is_cut (Leads p v) is true y = elim (same o p) [
        | inl at ↦ returns_home is_cut v (is ∙ ap (λ (z : K). Leads z v) (sym at)) y
        | inr far ↦ frees is_cut (λ i x led. (let h = left_home i x led (yields i) refl in
            let both : Leads p v ≡ Leads o x = sym is ∙ ap (λ (z : K). (d z).end) (sym h.1) ∙ led in
            let to : p ≡ o = cc in far (sym to)))
      ]

    -- it fed nothing
    module _ (j : K) (fed : r.feeder o ≡ Some j) (other : j ≢ k) where
      own_end : (e : End same) → e ≡ Leads o u → IsEnd same entries r.feeder k (r.lines k) e → IsTorn entries (r.lines k).front
      own_end e is h = by_cases (subst (IsEnd same entries r.feeder k (r.lines k)) is h)
        where
          by_cases : IsEnd same entries r.feeder k (r.lines k) (Leads o u) → IsTorn entries (r.lines k).front
          by_cases (inl f) = absurd (let clash : Some j ≡ Some k = sym fed ∙ f in let at : j ≡ k = cc in other at)
          by_cases (inr q) = q.1

      drops : IsReal entries begun d
      unfolding ended
      drops = real_put entries entries begun begun b d k ended r (r.cells k ∙ sym cells) (sym end) (r.stretch k) (λ i n. ((away i n).0, (away i n).1, refl))
          (λ p v e. absurd (let clash : Nowhere ≡ Leads p v = sym end ∙ e in cc clash))
          (net_turns same entries r.feeder r.lines k Nowhere
          (λ p f. (let q = feeder_leads entries begun b r p k f in
          let to : o ≡ p = leads_two b k o p u q.0 by q.1 in
          let clash : Some j ≡ Some k = sym fed ∙ ap r.feeder to ∙ f in
          let at : j ≡ k = cc in other at))
          (own_end (r.lines k).end (r.ends k ∙ by) (r.net.line k).ends) r.net)

    pub real_ends : HasCut entries u → IsReal entries begun d
    real_ends is_cut = by_feeder (r.some k o u by)
      where
        by_feeder : (j : K) × (r.feeder o ≡ Some j) → IsReal entries begun d
        by_feeder s = elim (same s.0 k) [
          | inl at ↦ by_home (s.1 ∙ ap (λ (x : K). Some x) at) is_cut (d (home o)).end refl (yields (home o)) refl
          | inr n ↦ drops s.0 s.1 n
        ]

  -- *A branch is made*
  module _ (entries : List Entry) (begun : K → List Cell) (b d : K → Shown) (k o : K) (r : IsReal entries begun b) (apart : AreApart d) (quiet : AreQuiet d) (by : (b k).end ≡ Nowhere)
      (cells : (d k).cells ≡ (b k).cells) (end : (d k).end ≡ Leads o None) (away : (j : K) → k ≢ j → ((d j).cells ≡ (b j).cells) × ((d j).end ≡ (b j).end)) where
    abbrev made : Line same
    made = record (r.lines k) { end = Leads o None }

    was_torn : (e : End same) → e ≡ Nowhere → IsEnd same entries r.feeder k (r.lines k) e → IsTorn entries (r.lines k).front
    was_torn e is h = subst (IsEnd same entries r.feeder k (r.lines k)) is h

    front_torn : IsTorn entries (r.lines k).front
    front_torn = was_torn (r.lines k).end (r.ends k ∙ by) (r.net.line k).ends

    -- where a list led before, or the new branch
    before : (i p : K) (v : Option Mark) → k ≢ i → (d i).end ≡ Leads p v → (b i).end ≡ Leads p v
    before i p v n e = sym (away i n).1 ∙ e

    own_to : (i p : K) (v : Option Mark) → k ≡ i → (d i).end ≡ Leads p v → o ≡ p
    own_to i p v at e = (let both : Leads o None ≡ Leads p v = sym end ∙ ap (λ (x : K). (d x).end) at ∙ e in cc)

    shows_cells : (j : K) → (set same r.lines k made j).cells ≡ (d j).cells
    shows_cells = put_line (λ (x : Line same). x.cells) r.lines k made (λ j. (d j).cells) (r.cells k ∙ sym cells) (λ j n. r.cells j ∙ sym (away j n).0)

    shows_end : (j : K) → (set same r.lines k made j).end ≡ (d j).end
    shows_end = put_line (λ (x : Line same). x.end) r.lines k made (λ j. (d j).end) (sym end) (λ j n. r.ends j ∙ sym (away j n).1)

    shows_stretch : (j : K) → (set same r.lines k made j).begun ≡ begun j
    shows_stretch = put_line (λ (x : Line same). x.begun) r.lines k made begun (r.stretch k) (λ j n. r.stretch j)

    -- it feeds its list from now on, where none other does
    feeds_now : (feeder : K → Option K) → IsNet same entries feeder r.lines → feeder o ≡ None → ((p : K) → o ≢ p → feeder p ≡ r.feeder p)
        → ((i : K) (v : Option Mark) → (b i).end ≡ Leads o v → yields i ≡ false → ⊥) → IsReal entries begun d
    feeds_now feeder net none alike alone = record {
      feeder = refed feeder o (Some k);
      lines = set same r.lines k made;
      cells = shows_cells;
      ends = shows_end;
      stretch = shows_stretch;
      net = net_feeds same entries feeder (refed feeder o (Some k)) r.lines k o None front_torn
          (λ p f. (let clash : Nowhere ≡ Leads p (net.feeds p k f).mark = sym (r.ends k ∙ by) ∙ (net.feeds p k f).leads in cc clash)) none (refed_is feeder o (Some k)) net;
      first = λ i p v e y. elim (same k i) [
        | inl at ↦ ap (refed feeder o (Some k)) (sym (own_to i p v at e)) ∙ (refed_is feeder o (Some k)).0 ∙ ap (λ (x : K). Some x) at
        | inr n ↦ elim (same o p) [
          | inl to ↦ absurd (alone i v (before i o v n (subst (λ (x : K). (d i).end ≡ Leads x v) (sym to) e)) y)
          | inr far ↦ (refed_is feeder o (Some k)).1 p far ∙ alike p far ∙ r.first i p v (before i p v n e) y
        ]
      ];
      some = λ i p v e. elim (same o p) [
        | inl to ↦ (k, ap (refed feeder o (Some k)) (sym to) ∙ (refed_is feeder o (Some k)).0)
        | inr far ↦ (
            let n : k ≢ i = λ at. far (own_to i p v at e) in
            let s = r.some i p v (before i p v n e) in
            (s.0, (refed_is feeder o (Some k)).1 p far ∙ alike p far ∙ s.1))
      ];
    }

    free_case : r.feeder o ≡ None → IsReal entries begun d
    free_case none = feeds_now r.feeder r.net none (λ p far. refl) (λ i v e y. (let clash : None ≡ Some i = sym none ∙ r.first i o v e y in cc clash))

    module _ (j : K) (fed : r.feeder o ≡ Some j) where
      leads_now : (v : Option Mark) × ((d j).end ≡ Leads o v)
      leads_now = (let f = feeder_leads entries begun b r o j fed in (f.0, (away j (not_own f.0 f.1)).1 ∙ f.1))
        where
          not_own : (v : Option Mark) → (b j).end ≡ Leads o v → k ≢ j
          not_own v e at = (let clash : Nowhere ≡ Leads o v = sym by ∙ ap (λ (x : K). (b x).end) at ∙ e in cc clash)

      is_other : k ≢ j
      is_other at = (let f = feeder_leads entries begun b r o j fed in let clash : Nowhere ≡ Leads o f.0 = sym by ∙ ap (λ (x : K). (b x).end) at ∙ f.1 in cc clash)

      -- the home gives way
      gives_way : yields j ≡ true → yields k ≡ false → IsReal entries begun d
      gives_way own given =
          let none : r.feeder j ≡ None = unfed entries begun b r j (λ i v e. elim (same k i) [
            | inl at ↦ (let clash : Nowhere ≡ Leads j v = sym by ∙ ap (λ (x : K). (b x).end) at ∙ e in cc clash)
            | inr n ↦ apart.unled i j v own ((away i n).1 ∙ e)
          ]) in
          let empty : (r.lines j).cells ≡ [] = r.cells j ∙ sym (away j is_other).0 ∙ quiet k j o None leads_now.0 given own end leads_now.1 in
          feeds_now (refed r.feeder o None)
          (net_quiet same entries r.feeder (refed r.feeder o None) r.lines j o fed empty ((r.net.line j).fed none) (refed_is r.feeder o None) r.net)
          (refed_is r.feeder o None).0 (λ p far. (refed_is r.feeder o None).1 p far)
          (λ i v e y. (let n : k ≢ i = λ at. (let clash : Nowhere ≡ Leads o v = sym by ∙ ap (λ (x : K). (b x).end) at ∙ e in cc clash) in
          n (sym (apart.once i k o v None y given ((away i n).1 ∙ e) end))))

      -- the home waits
      waits_home : yields j ≡ false → yields k ≡ true → IsReal entries begun d
      waits_home given own = record {
        feeder = r.feeder;
        lines = set same r.lines k made;
        cells = shows_cells;
        ends = shows_end;
        stretch = shows_stretch;
        net = net_turns same entries r.feeder r.lines k (Leads o None)
            (λ p f. (let q = feeder_leads entries begun b r p k f in let clash : Nowhere ≡ Leads p q.0 = sym by ∙ q.1 in cc clash))
            (inr (r.cells k ∙ sym cells ∙ quiet j k o leads_now.0 None given own leads_now.1 end, front_torn)) r.net;
        first = λ i p v e y. elim (same k i) [
          | inl at ↦ absurd (true≢false (sym own ∙ ap yields at ∙ y))
          | inr n ↦ r.first i p v (before i p v n e) y
        ];
        some = λ i p v e. elim (same k i) [
          | inl at ↦ (j, ap r.feeder (sym (own_to i p v at e)) ∙ fed)
          | inr n ↦ r.some i p v (before i p v n e)
        ];
      }

      fed_case : (s t : Bool) → yields j ≡ s → yields k ≡ t → IsReal entries begun d
      fed_case true true a c = absurd (is_other (apart.at_home k o None c end ∙ sym (apart.at_home j o leads_now.0 a leads_now.1)))
      fed_case true false a c = gives_way a c
      fed_case false true a c = waits_home a c
      fed_case false false a c = absurd (is_other (apart.once k j o None leads_now.0 c a end leads_now.1))

    pub real_leads : IsReal entries begun d
    real_leads = by_feeder (r.feeder o) refl
      where
        by_feeder : (f : Option K) → r.feeder o ≡ f → IsReal entries begun d
        by_feeder None e = free_case e
        by_feeder (Some j) e = fed_case j e (yields j) (yields k) refl refl

  -- *Channels are taken from now on, or no more*, where nothing of them is taken
  pub data Toggles (begun : List Cell) : End same → End same → Type 0 where
    stays_so : (e f : End same) → f ≡ e → Toggles begun e f
    opens_now : begun ≡ [] → Toggles begun Closed (Takes nothing_taken)
    closes_now : begun ≡ [] → Toggles begun (Takes nothing_taken) Closed

  toggled_leads : (begun : List Cell) (e f : End same) → Toggles begun e f → (o : K) (u : Option Mark) → (f ≡ Leads o u → e ≡ Leads o u) × (e ≡ Leads o u → f ≡ Leads o u)
  toggled_leads begun e f (stays_so _ _ is) o u = (λ h. sym is ∙ h, λ h. is ∙ h)
  toggled_leads begun _ _ (opens_now none) o u = (λ h. absurd (cc h), λ h. absurd (cc h))
  toggled_leads begun _ _ (closes_now none) o u = (λ h. absurd (cc h), λ h. absurd (cc h))

  toggled_end : (entries : List Entry) (feeder : K → Option K) (k : K) (l : Line same) (begun : List Cell) (e f : End same) → l.begun ≡ begun → Toggles begun e f → IsEnd same entries feeder k l e → IsEnd same entries feeder k (record l { end = f }) f
  toggled_end entries feeder k l begun e f was (stays_so _ _ is) h = subst (λ (x : End same). IsEnd same entries feeder k (record l { end = x }) x) (sym is) (as_is e h)
    where
      as_is : (x : End same) → IsEnd same entries feeder k l x → IsEnd same entries feeder k (record l { end = x }) x
      as_is (Takes r) h = h
      as_is Nowhere h = h
      as_is Closed h = h
      as_is (Leads o u) h = h
  toggled_end entries feeder k l begun _ _ was (opens_now none) h =
      subst (λ (b : List Cell). IsTaker entries b nothing_taken l.front) (sym (was ∙ none)) (begins_anew entries l.front h)
  toggled_end entries feeder k l begun _ _ was (closes_now none) h = subst (λ (b : List Cell). Rest entries b l.front) (was ∙ none) h.rest

  pub real_toggles : (entries : List Entry) (begun : K → List Cell) (b d : K → Shown) → ((k : K) → (d k).cells ≡ (b k).cells) → ((k : K) → Toggles (begun k) (b k).end (d k).end) → IsReal entries begun b → IsReal entries begun d
  real_toggles entries begun b d cells each r = record {
    feeder = r.feeder;
    lines = λ k. record (r.lines k) { end = (d k).end };
    cells = λ k. r.cells k ∙ sym (cells k);
    ends = λ k. refl;
    stretch = r.stretch;
    net = record {
      line = λ k. record {
        streams = (r.net.line k).streams;
        ends = toggled_end entries r.feeder k (r.lines k) (begun k) (b k).end (d k).end (r.stretch k) (each k) (subst (IsEnd same entries r.feeder k (r.lines k)) (r.ends k) (r.net.line k).ends);
        fed = (r.net.line k).fed;
      };
      feeds = λ o k e. record {
        mark = (r.net.feeds o k e).mark;
        leads = (toggled_leads (begun k) (b k).end (d k).end (each k) o (r.net.feeds o k e).mark).1 (sym (r.ends k) ∙ (r.net.feeds o k e).leads);
        joint = (r.net.feeds o k e).joint;
      };
    };
    first = λ k o u e y. r.first k o u ((toggled_leads (begun k) (b k).end (d k).end (each k) o u).0 e) y;
    some = λ k o u e. r.some k o u ((toggled_leads (begun k) (b k).end (d k).end (each k) o u).0 e);
  }

  -- a channel of which nothing is taken has no stretch
  pub no_stretch : (entries : List Entry) (begun : K → List Cell) (b : K → Shown) (k : K) → IsReal entries begun b → (b k).end ≡ Takes nothing_taken → begun k ≡ []
  no_stretch entries begun b k r by =
      let taker : IsTaker entries (r.lines k).begun nothing_taken (r.lines k).front = subst (IsEnd same entries r.feeder k (r.lines k)) (r.ends k ∙ by) (r.net.line k).ends in
      sym (taker.chain refl ∙ r.stretch k)

  -- a channel that doesn't skip has the stretch as its chain
  pub chain_is_stretch : (entries : List Entry) (begun : K → List Cell) (b : K → Shown) (k : K) (x : Reassembly) → IsReal entries begun b → (b k).end ≡ Takes x → x.is_skipping ≡ false → x.chain ≡ begun k
  chain_is_stretch entries begun b k x r by reading =
      let taker : IsTaker entries (r.lines k).begun x (r.lines k).front = subst (IsEnd same entries r.feeder k (r.lines k)) (r.ends k ∙ by) (r.net.line k).ends in
      taker.chain reading ∙ r.stretch k
