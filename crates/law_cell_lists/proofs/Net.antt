-- lists of cells, each with what takes it at its front; a list may lead to the end of another one. What
-- holds is said of each list alone, and of each list with the one that feeds it.

use Rattle.std.proofs.Common.{◌≡◌, ◌≢◌, Bool, true, List, [], ◌∷◌, ◌++◌, map, Option, None, Some, refl, sym, ◌∙◌, ap, subst, ◌⊎◌, inl, inr}
use Rattle.world_model.specs.Words.{Mark, Cell, Entry, Journal, Reassembly, nothing_taken, cut, unfinished_after}
use Rattle.world_model.specs.frame_model.Reassembly.{Taken, taken}
use Rattle.ordered_lists.specs.Ordered.{Every}
use Rattle.ordered_lists.proofs.Every.{every_map}
use Rattle.law_cell_lists.specs.Causes.{has_cause, bare}
use Rattle.law_cell_lists.proofs.Lists.{if_cases}
use Rattle.law_cell_lists.proofs.Frames.{IsWhole, IsOf}
use Rattle.law_cell_lists.proofs.Streams.{IsTorn, torn_kept, torn_by, Step, Streams, Agree, streams_kept, agree_kept, streams_join, streams_push, whole_streams, step_lost, step_last, step_marks, step_over}
use Rattle.law_cell_lists.proofs.Taking.{Rest, rest_kept, begins_anew, IsTaker, taker_kept, taker_slack, taker_takes, taker_cut, Leaves, Adds, stretch_after}

-- more entries
pub record Grown (old new : List Entry) : Type 0 where
  pub more : List Entry
  pub is : new ≡ old ++ more

-- where one list leads to another: what is open behind the one is what is to come of the other, and the
-- branch's mark says so, or it doesn't matter
abbrev pub IsHeld : List Entry → List Cell → Option Mark → Type 0
IsHeld entries back None = IsTorn entries back
IsHeld entries back (Some m) = IsTorn entries back ⊎ Every (IsOf m) back

pub record IsJoint (entries : List Entry) (back front : List Cell) (u : Option Mark) : Type 0 where
  pub agree : Agree entries back front
  pub held : IsHeld entries back u

held_kept : (entries more : List Entry) (back : List Cell) (u : Option Mark) → IsHeld entries back u → IsHeld (entries ++ more) back u
held_kept entries more back None h = torn_kept entries more back h
held_kept entries more back (Some m) (inl t) = inl (torn_kept entries more back t)
held_kept entries more back (Some m) (inr e) = inr e

pub joint_kept : (entries more : List Entry) (back front : List Cell) (u : Option Mark) → IsJoint entries back front u → IsJoint (entries ++ more) back front u
joint_kept entries more back front u j = record { agree = agree_kept entries more back front j.agree; held = held_kept entries more back u j.held }

held_torn : (entries : List Entry) (back : List Cell) (u : Option Mark) → IsTorn entries back → IsHeld entries back u
held_torn entries back None t = t
held_torn entries back (Some m) t = inl t

pub joint_new : (entries : List Entry) (back front : List Cell) (u : Option Mark) → IsTorn entries back → IsTorn entries front → IsJoint entries back front u
joint_new entries back front u t v = record { agree = inr (t, v); held = held_torn entries back u t }

agree_torn : (entries : List Entry) (s t : List Cell) → Agree entries s t → IsTorn entries t → IsTorn entries s
agree_torn entries s t (inl e) h = subst (IsTorn entries) (sym e) h
agree_torn entries s t (inr both) h = both.0

agree_torn' : (entries : List Entry) (s t : List Cell) → Agree entries s t → IsTorn entries s → IsTorn entries t
agree_torn' entries s t (inl e) h = subst (IsTorn entries) e h
agree_torn' entries s t (inr both) h = both.1

-- the next cell of the front list is lost (Lost, Unconnected, PoolFull): `u` stays
pub joint_lost : (entries : List Entry) (back front : List Cell) (u : Option Mark) (c : Cell) (next : List Cell) → has_cause entries c.mark ≡ true → Step entries front c next → IsJoint entries back front u → IsJoint entries back next u
joint_lost entries back front u c next e k j =
    let both = step_lost entries front c next e k in
    joint_new entries back next u (agree_torn entries back front j.agree both.0) both.1

-- it goes over, on another channel
pub record GoesOver (entries : List Entry) (back : List Cell) (d : Cell) (next : List Cell) (u : Option Mark) : Type 0 where
  pub other : List Cell
  pub step : Step entries back d other
  pub joint : IsJoint entries other next u

pub joint_over : (entries : List Entry) (back front : List Cell) (u : Option Mark) (c d : Cell) (next : List Cell) → bare d ≡ bare c → IsJoint entries back front u → Step entries front c next → GoesOver entries back d next (unfinished_after c)
joint_over entries back front u c d next same j k =
    let o = step_over entries back front c d next same j.agree k in
    let mark : d.mark ≡ c.mark = ap (λ (x : Cell). x.mark) same in
    record {
      other = o.0;
      step = o.1;
      joint = record {
        agree = o.2;
        held = if_cases (IsHeld entries o.0) c.header.last None (Some c.mark)
            (λ last. subst (IsTorn entries) (sym (step_last entries back d o.0 (ap (λ (x : Cell). x.header.last) same ∙ last) o.1)) tt)
            (λ early. inr (every_map (IsOf d.mark) (IsOf c.mark) o.0 (λ x e. e ∙ mark) (step_marks entries back d o.0 o.1)));
      };
    }

-- the branch changes or ends: its mark gets Cut
abbrev pub HasCut : List Entry → Option Mark → Type 0
HasCut entries None = Unit {0}
HasCut entries (Some m) = has_cause entries m ≡ true

held_cut : (entries : List Entry) (back : List Cell) (u : Option Mark) → HasCut entries u → IsHeld entries back u → IsTorn entries back
held_cut entries back None h t = t
held_cut entries back (Some m) h (inl t) = t
held_cut entries back (Some m) h (inr e) = torn_by entries m back h e

pub joint_cut : (entries : List Entry) (back front : List Cell) (u : Option Mark) → HasCut entries u → IsJoint entries back front u → IsTorn entries back × IsTorn entries front
joint_cut entries back front u h j =
    let t : IsTorn entries back = held_cut entries back u h j.held in
    (t, agree_torn' entries back front j.agree t)

module _ {K : Type 0} (same : (a b : K) → (a ≡ b) ⊎ (a ≢ b)) where
  pub data End : Type 0 where
    Takes : Reassembly → End
    Leads : K → Option Mark → End
    Nowhere : End
    -- a channel that a controller or a switch could take, but doesn't now
    Closed : End

  -- a list, and what is to come of the frames that are open in front of it and behind it
  pub record Line : Type 0 where
    pub front : List Cell
    pub cells : List Cell
    pub back : List Cell
    pub end : End
    pub begun : List Cell

  abbrev pick : {k j : K} → (k ≡ j) ⊎ (k ≢ j) → Line → Line → Line
  pick (inl _) x y = x
  pick (inr _) x y = y

  abbrev pub set : (K → Line) → K → Line → K → Line
  set w k x j = pick (same k j) x (w j)

  pub pick_cases : (P : Line → Type 0) {k j : K} (d : (k ≡ j) ⊎ (k ≢ j)) (x y : Line) → (k ≡ j → P x) → (k ≢ j → P y) → P (pick d x y)
  pick_cases P (inl e) x y f g = f e
  pick_cases P (inr n) x y f g = g n

  pub set_cases : (P : Line → Type 0) (w : K → Line) (k : K) (x : Line) (j : K) → (k ≡ j → P x) → (k ≢ j → P (w j)) → P (set w k x j)
  set_cases P w k x j f g = pick_cases P (same k j) x (w j) f g

  pub set_here : (w : K → Line) (k : K) (x : Line) → set w k x k ≡ x
  set_here w k x = set_cases (λ (l : Line). l ≡ x) w k x k (λ e. refl) (λ n. absurd (n refl))

  -- of one list
  abbrev pub IsEnd : List Entry → (feeder : K → Option K) → K → Line → End → Type 0
  IsEnd entries feeder k l (Takes r) = IsTaker entries l.begun r l.front
  IsEnd entries feeder k l Nowhere = IsTorn entries l.front
  IsEnd entries feeder k l Closed = Rest entries [] l.front
  IsEnd entries feeder k l (Leads o u) = (feeder o ≡ Some k) ⊎ ((l.cells ≡ []) × IsTorn entries l.front)

  pub record IsLine (entries : List Entry) (feeder : K → Option K) (k : K) (l : Line) : Type 0 where
    pub streams : Streams entries l.front l.cells l.back
    pub ends : IsEnd entries feeder k l l.end
    pub fed : feeder k ≡ None → IsTorn entries l.back

  -- of two
  pub record IsFed (entries : List Entry) (o k : K) (fed feeds : Line) : Type 0 where
    pub mark : Option Mark
    pub leads : feeds.end ≡ Leads o mark
    pub joint : IsJoint entries fed.back feeds.front mark

  pub record IsNet (entries : List Entry) (feeder : K → Option K) (w : K → Line) : Type 0 where
    pub line : (k : K) → IsLine entries feeder k (w k)
    pub feeds : (o k : K) → feeder o ≡ Some k → IsFed entries o k (w o) (w k)

  end_kept : (entries more : List Entry) (feeder : K → Option K) (k : K) (l : Line) (e : End) → IsEnd entries feeder k l e → IsEnd (entries ++ more) feeder k l e
  end_kept entries more feeder k l (Takes r) h = taker_kept entries more l.begun r l.front h
  end_kept entries more feeder k l Nowhere h = torn_kept entries more l.front h
  end_kept entries more feeder k l Closed h = rest_kept entries more [] l.front h
  end_kept entries more feeder k l (Leads o u) (inl e) = inl e
  end_kept entries more feeder k l (Leads o u) (inr q) = inr (q.0, torn_kept entries more l.front q.1)

  -- more entries
  pub net_noted : (entries more : List Entry) (feeder : K → Option K) (w : K → Line) → IsNet entries feeder w → IsNet (entries ++ more) feeder w
  net_noted entries more feeder w n = record {
    line = λ k. record {
      streams = streams_kept entries more (w k).front (w k).cells (w k).back (n.line k).streams;
      ends = end_kept entries more feeder k (w k) (w k).end (n.line k).ends;
      fed = λ e. torn_kept entries more (w k).back ((n.line k).fed e);
    };
    feeds = λ o k e. record {
      mark = (n.feeds o k e).mark;
      leads = (n.feeds o k e).leads;
      joint = joint_kept entries more (w o).back (w k).front (n.feeds o k e).mark (n.feeds o k e).joint;
    };
  }

  -- one list changes; what is behind it stays
  pub net_front : (entries : List Entry) (feeder : K → Option K) (w : K → Line) (k : K) (l : Line) → IsNet entries feeder w → l.back ≡ (w k).back → IsLine entries feeder k l
      → ((o : K) → feeder o ≡ Some k → IsFed entries o k (w o) l) → IsNet entries feeder (set w k l)
  net_front entries feeder w k l n back line feeds = record {
    line = λ j. set_cases (IsLine entries feeder j) w k l j (λ e. subst (λ (i : K). IsLine entries feeder i l) e line) (λ d. n.line j);
    feeds = λ o j e. (
        let same_back : (set w k l o).back ≡ (w o).back = set_cases (λ (x : Line). x.back ≡ (w o).back) w k l o (λ i. back ∙ ap (λ (h : K). (w h).back) i) (λ d. refl) in
        let old : IsFed entries o j (w o) (set w k l j) =
        set_cases (IsFed entries o j (w o)) w k l j
        (λ i. subst (λ (h : K). IsFed entries o h (w o) l) i (feeds o (e ∙ ap (λ (h : K). Some h) (sym i)))) (λ d. n.feeds o j e) in
        record {
          mark = old.mark;
          leads = old.leads;
          joint = subst (λ (b : List Cell). IsJoint entries b (set w k l j).front old.mark) (sym same_back) old.joint;
        });
  }

  -- one list changes at its back
  pub net_back : (entries : List Entry) (feeder : K → Option K) (w : K → Line) (k : K) (l : Line) → IsNet entries feeder w → l.front ≡ (w k).front → l.end ≡ (w k).end → IsLine entries feeder k l
      → feeder k ≡ None → IsNet entries feeder (set w k l)
  net_back entries feeder w k l n front end line none = record {
    line = λ j. set_cases (IsLine entries feeder j) w k l j (λ e. subst (λ (i : K). IsLine entries feeder i l) e line) (λ d. n.line j);
    feeds = λ o j e. (
        let old : IsFed entries o j (w o) (w j) = n.feeds o j e in
        let same_front : (set w k l j).front ≡ (w j).front = set_cases (λ (x : Line). x.front ≡ (w j).front) w k l j (λ i. front ∙ ap (λ (h : K). (w h).front) i) (λ d. refl) in
        let same_end : (set w k l j).end ≡ (w j).end = set_cases (λ (x : Line). x.end ≡ (w j).end) w k l j (λ i. end ∙ ap (λ (h : K). (w h).end) i) (λ d. refl) in
        let same_back : (set w k l o).back ≡ (w o).back = set_cases (λ (x : Line). x.back ≡ (w o).back) w k l o
        (λ i. absurd (let clash : None ≡ Some j = sym none ∙ ap feeder i ∙ e in cc clash)) (λ d. refl) in
        record {
          mark = old.mark;
          leads = same_end ∙ old.leads;
          joint = subst (λ (b : List Cell). IsJoint entries b (set w k l j).front old.mark) (sym same_back) (subst (λ (f : List Cell). IsJoint entries (w o).back f old.mark) (sym same_front) old.joint);
        });
  }

  -- a list that feeds another isn't quiet
  abbrev pub MaySend : (K → Option K) → K → End → Type 0
  MaySend feeder k (Takes r) = Unit {0}
  MaySend feeder k Nowhere = Unit {0}
  MaySend feeder k Closed = Unit {0}
  MaySend feeder k (Leads o u) = feeder o ≡ Some k

  longer : (entries : List Entry) (feeder : K → Option K) (k : K) (l : Line) (cells back : List Cell) (e : End) → MaySend feeder k e → IsEnd entries feeder k l e → IsEnd entries feeder k (record l { cells = cells; back = back }) e
  longer entries feeder k l cells back (Takes r) m h = h
  longer entries feeder k l cells back Nowhere m h = h
  longer entries feeder k l cells back Closed m h = h
  longer entries feeder k l cells back (Leads o u) m h = inl m

  -- a whole frame is sent
  pub net_sends : (entries : List Entry) (feeder : K → Option K) (w : K → Line) (k : K) (c : Cell) (frame : List Cell) → feeder k ≡ None → MaySend feeder k (w k).end → IsWhole (map bare (c ∷ frame)) → IsNet entries feeder w
      → IsNet entries feeder (set w k (record (w k) { cells = (w k).cells ++ c ∷ frame; back = [] }))
  net_sends entries feeder w k c frame none may whole n =
      let l : Line = w k in
      let line : IsLine entries feeder k l = n.line k in
      let more : Streams entries l.back (c ∷ frame) [] = elim (whole_streams entries l.back (c ∷ frame) (line.fed none) whole) [ inl h ↦ h | inr e ↦ absurd (cc e) ] in
      net_back entries feeder w k (record l { cells = l.cells ++ c ∷ frame; back = [] }) n refl refl
      (record { streams = streams_join entries l.front l.cells l.back (c ∷ frame) [] line.streams more; ends = longer entries feeder k l (l.cells ++ c ∷ frame) [] l.end may line.ends; fed = λ e. tt })
      none

  -- the next cell is lost, and its entry stands
  lost_end : (entries : List Entry) (feeder : K → Option K) (k : K) (l : Line) (c : Cell) (cells next : List Cell) (e : End) → l.cells ≡ c ∷ cells → has_cause entries c.mark ≡ true → Step entries l.front c next → IsEnd entries feeder k l e
      → IsEnd entries feeder k (record l { cells = cells; front = next }) e
  lost_end entries feeder k l c cells next (Takes r) is lost step h = (let both = step_lost entries l.front c next lost step in taker_slack entries l.begun r l.front next both.0 both.1 h)
  lost_end entries feeder k l c cells next Nowhere is lost step h = (step_lost entries l.front c next lost step).1
  lost_end entries feeder k l c cells next Closed is lost step h = inl (step_lost entries l.front c next lost step).1
  lost_end entries feeder k l c cells next (Leads o u) is lost step (inl e) = inl e
  lost_end entries feeder k l c cells next (Leads o u) is lost step (inr q) = absurd (let clash : c ∷ cells ≡ [] = sym is ∙ q.0 in cc clash)

  pub net_loses : (entries : List Entry) (feeder : K → Option K) (w : K → Line) (k : K) (c : Cell) (cells : List Cell) → (w k).cells ≡ c ∷ cells → has_cause entries c.mark ≡ true → IsNet entries feeder w
      → (next : List Cell) × IsNet entries feeder (set w k (record (w k) { cells = cells; front = next }))
  net_loses entries feeder w k c cells is lost n =
      let l : Line = w k in
      let line : IsLine entries feeder k l = n.line k in
      let s : Streams entries l.front (c ∷ cells) l.back = subst (λ (x : List Cell). Streams entries l.front x l.back) is line.streams in (
        s.0,
        net_front entries feeder w k (record l { cells = cells; front = s.0 }) n refl
            (record { streams = s.2; ends = lost_end entries feeder k l c cells s.0 l.end is lost s.1 line.ends; fed = line.fed })
            (λ o e. (let old : IsFed entries o k (w o) l = n.feeds o k e in
            record { mark = old.mark; leads = old.leads; joint = joint_lost entries (w o).back l.front old.mark c s.0 lost s.1 old.joint })),
      )

  -- a list that a reassembly takes feeds none
  no_feeder : (entries : List Entry) (feeder : K → Option K) (w : K → Line) (k : K) (r : Reassembly) → (w k).end ≡ Takes r → IsNet entries feeder w → {l : Line} → (o : K) → feeder o ≡ Some k → IsFed entries o k (w o) l
  no_feeder entries feeder w k r is n o e =
      let old : IsFed entries o k (w o) (w k) = n.feeds o k e in
      absurd (let clash : Takes r ≡ Leads o old.mark = sym is ∙ old.leads in cc clash)

  -- a reassembly takes the next cell
  pub record NetTakes (notes : Journal) (feeder : K → Option K) (w : K → Line) (k : K) (c : Cell) (cells : List Cell) (t : Taken) : Type 0 where
    pub next : List Cell
    pub net : IsNet t.notes.entries feeder (set w k (record (w k) { cells = cells; front = next; end = Takes t.reassembly; begun = stretch_after (w k).begun c }))
    pub adds : Adds ((w k).begun ++ c ∷ []) notes.entries t.notes.entries
    pub step : Step notes.entries (w k).front c next

  pub net_takes : (notes : Journal) (has_slot : Bool) (feeder : K → Option K) (w : K → Line) (k : K) (r : Reassembly) (c : Cell) (cells : List Cell) → (w k).end ≡ Takes r → (w k).cells ≡ c ∷ cells → IsNet notes.entries feeder w
      → NetTakes notes feeder w k c cells (taken notes has_slot r c)
  net_takes notes has_slot feeder w k r c cells takes is n =
      let entries : List Entry = notes.entries in
      let l : Line = w k in
      let line : IsLine entries feeder k l = n.line k in
      let t : Taken = taken notes has_slot r c in
      let s : Streams entries l.front (c ∷ cells) l.back = subst (λ (x : List Cell). Streams entries l.front x l.back) is line.streams in
      let taker : IsTaker entries l.begun r l.front = subst (IsEnd entries feeder k l) takes line.ends in
      let leaves : Leaves notes l.begun c s.0 t = taker_takes notes has_slot l.begun r l.front c s.0 taker s.1 in
      let more : List Entry = leaves.adds.more in
      let grown : IsNet t.notes.entries feeder w = subst (λ (x : List Entry). IsNet x feeder w) (sym leaves.adds.is) (net_noted entries more feeder w n) in
      record {
        next = s.0;
        net = net_front t.notes.entries feeder w k (record l { cells = cells; front = s.0; end = Takes t.reassembly; begun = stretch_after l.begun c }) grown refl
            (record { streams = subst (λ (x : List Entry). Streams x s.0 cells l.back) (sym leaves.adds.is) (streams_kept entries more s.0 cells l.back s.2); ends = leaves.taker; fed = (grown.line k).fed })
            (no_feeder t.notes.entries feeder w k r takes grown);
        adds = leaves.adds;
        step = s.1;
      }

  -- the channel is cut
  pub net_cut : (notes : Journal) (feeder : K → Option K) (w : K → Line) (k : K) (r : Reassembly) → (w k).end ≡ Takes r → Grown notes.entries (cut notes r).entries → IsNet notes.entries feeder w
      → IsNet (cut notes r).entries feeder (set w k (record (w k) { end = Takes nothing_taken; begun = [] }))
  net_cut notes feeder w k r takes g n =
      let l : Line = w k in
      let new : List Entry = (cut notes r).entries in
      let taker : IsTaker notes.entries l.begun r l.front = subst (IsEnd notes.entries feeder k l) takes (n.line k).ends in
      let grown : IsNet new feeder w = subst (λ (x : List Entry). IsNet x feeder w) (sym g.is) (net_noted notes.entries g.more feeder w n) in
      net_front new feeder w k (record l { end = Takes nothing_taken; begun = [] }) grown refl
      (record { streams = (grown.line k).streams; ends = taker_cut notes l.begun r l.front taker; fed = (grown.line k).fed })
      (no_feeder new feeder w k r takes grown)

  -- the next cell goes over a branch to the end of another list
  over_end : (entries : List Entry) (feeder : K → Option K) (w : K → Line) (o : K) → IsNet entries feeder w → MaySend feeder o (w o).end → (cells back : List Cell) → IsEnd entries feeder o (record (w o) { cells = cells; back = back }) (w o).end
  over_end entries feeder w o n may cells back = longer entries feeder o (w o) cells back (w o).end may (n.line o).ends

  is_feeder : (entries : List Entry) (feeder : K → Option K) (k : K) (l : Line) (o : K) (u : Option Mark) (c : Cell) (cells : List Cell) → l.cells ≡ c ∷ cells → IsEnd entries feeder k l (Leads o u) → feeder o ≡ Some k
  is_feeder entries feeder k l o u c cells is (inl e) = e
  is_feeder entries feeder k l o u c cells is (inr q) = absurd (let clash : c ∷ cells ≡ [] = sym is ∙ q.0 in cc clash)

  pub record NetOver (entries : List Entry) (feeder : K → Option K) (w : K → Line) (k o : K) (c d : Cell) (cells : List Cell) : Type 0 where
    pub next : List Cell
    pub other : List Cell
    pub net : IsNet entries feeder (set (set w k (record (w k) { cells = cells; front = next; end = Leads o (unfinished_after c) })) o (record (w o) { cells = (w o).cells ++ d ∷ []; back = other }))

  pub net_over : (entries : List Entry) (feeder : K → Option K) (w : K → Line) (k o : K) (u : Option Mark) (c d : Cell) (cells : List Cell) → (w k).end ≡ Leads o u → (w k).cells ≡ c ∷ cells → bare d ≡ bare c → k ≢ o → MaySend feeder o (w o).end
      → IsNet entries feeder w → NetOver entries feeder w k o c d cells
  net_over entries feeder w k o u c d cells leads is bares apart may n =
      let l : Line = w k in
      let line : IsLine entries feeder k l = n.line k in
      let fed_line : IsLine entries feeder o (w o) = n.line o in
      let s : Streams entries l.front (c ∷ cells) l.back = subst (λ (x : List Cell). Streams entries l.front x l.back) is line.streams in
      let feeds : feeder o ≡ Some k = is_feeder entries feeder k l o u c cells is (subst (IsEnd entries feeder k l) leads line.ends) in
      let old : IsFed entries o k (w o) l = n.feeds o k feeds in
      let over : GoesOver entries (w o).back d s.0 (unfinished_after c) = joint_over entries (w o).back l.front old.mark c d s.0 bares old.joint s.1 in
      let front : Line = record l { cells = cells; front = s.0; end = Leads o (unfinished_after c) } in
      let behind : Line = record (w o) { cells = (w o).cells ++ d ∷ []; back = over.other } in
      let first : K → Line = set w k front in
      let new : K → Line = set first o behind in
      let front_line : IsLine entries feeder k front = record { streams = s.2; ends = inl feeds; fed = line.fed } in
      let behind_line : IsLine entries feeder o behind = record {
        streams = streams_push entries (w o).front (w o).cells (w o).back d over.other fed_line.streams over.step;
        ends = over_end entries feeder w o n may ((w o).cells ++ d ∷ []) over.other;
        fed = λ e. absurd (let clash : None ≡ Some k = sym e ∙ feeds in cc clash);
      } in
      let at_k : new k ≡ front = set_cases (λ (x : Line). x ≡ front) first o behind k (λ e. absurd (apart (sym e))) (λ a. set_here w k front) in
      let at_o : new o ≡ behind = set_here first o behind in
      let elsewhere : (j : K) → k ≢ j → o ≢ j → new j ≡ w j = λ j a b. set_cases (λ (x : Line). x ≡ w j) first o behind j (λ e. absurd (b e)) (λ _. set_cases (λ (x : Line). x ≡ w j) w k front j (λ e. absurd (a e)) (λ _. refl)) in
      let same_back : (j : K) → o ≢ j → (new j).back ≡ (w j).back = λ j b.
      set_cases (λ (x : Line). x.back ≡ (w j).back) first o behind j (λ e. absurd (b e)) (λ _. set_cases (λ (x : Line). x.back ≡ (w j).back) w k front j (λ e. ap (λ (h : K). (w h).back) e) (λ _. refl)) in
      let same_front : (j : K) → k ≢ j → ((new j).front ≡ (w j).front) × ((new j).end ≡ (w j).end) = λ j a.
      set_cases (λ (x : Line). (x.front ≡ (w j).front) × (x.end ≡ (w j).end)) first o behind j (λ e. (ap (λ (h : K). (w h).front) e, ap (λ (h : K). (w h).end) e))
      (λ _. set_cases (λ (x : Line). (x.front ≡ (w j).front) × (x.end ≡ (w j).end)) w k front j (λ e. absurd (a e)) (λ _. (refl, refl))) in
      record {
        next = s.0;
        other = over.other;
        net = record {
          line = λ j. set_cases (IsLine entries feeder j) first o behind j (λ e. subst (λ (i : K). IsLine entries feeder i behind) e behind_line)
              (λ _. set_cases (IsLine entries feeder j) w k front j (λ e. subst (λ (i : K). IsLine entries feeder i front) e front_line) (λ _. n.line j));
          feeds = λ o' j e. elim (same k j) [
            | inl k_is ↦ (
                let mine : feeder o' ≡ Some k = e ∙ ap (λ (h : K). Some h) (sym k_is) in
                let was : IsFed entries o' k (w o') l = n.feeds o' k mine in
                let ends : Leads o' was.mark ≡ Leads o u = sym was.leads ∙ leads in
                let o_is : o' ≡ o = cc in
                let here : IsFed entries o k behind front = record { mark = unfinished_after c; leads = refl; joint = over.joint } in
                let there : IsFed entries o k (new o) (new k) = subst (λ (x : Line). IsFed entries o k x (new k)) (sym at_o) (subst (IsFed entries o k behind) (sym at_k) here) in
                subst (λ (i : K). IsFed entries o' i (new o') (new i)) k_is (subst (λ (i : K). IsFed entries i k (new i) (new k)) (sym o_is) there))
            | inr k_not ↦ (
                let was : IsFed entries o' j (w o') (w j) = n.feeds o' j e in
                let o_not : o ≢ o' = λ h. (let clash : Some k ≡ Some j = sym feeds ∙ ap feeder h ∙ e in k_not cc) in
                let f = same_front j k_not in
                record {
                  mark = was.mark;
                  leads = f.1 ∙ was.leads;
                  joint = subst (λ (b : List Cell). IsJoint entries b (new j).front was.mark) (sym (same_back o' o_not)) (subst (λ (x : List Cell). IsJoint entries (w o').back x was.mark) (sym f.0) was.joint);
                })
          ];
        };
      }

  -- the feeder of one list becomes another one, or none
  abbrev pub Refed : (feeder new : K → Option K) (o : K) → Option K → Type 0
  Refed feeder new o to = (new o ≡ to) × ((j : K) → o ≢ j → new j ≡ feeder j)

  -- a branch ends, or moves; what it held open has a cause
  other_end : (entries : List Entry) (feeder new : K → Option K) (o k : K) (to : Option K) → feeder o ≡ Some k → Refed feeder new o to → (j : K) → k ≢ j → (l : Line) (e : End) → IsEnd entries feeder j l e → IsEnd entries new j l e
  other_end entries feeder new o k to feeds r j apart l (Takes q) h = h
  other_end entries feeder new o k to feeds r j apart l Nowhere h = h
  other_end entries feeder new o k to feeds r j apart l Closed h = h
  other_end entries feeder new o k to feeds r j apart l (Leads p u) (inr q) = inr q
  other_end entries feeder new o k to feeds r j apart l (Leads p u) (inl e) =
      let far : o ≢ p = λ h. (let clash : Some k ≡ Some j = sym feeds ∙ ap feeder h ∙ e in apart cc) in
      inl (r.1 p far ∙ e)

  pub net_ends : (entries : List Entry) (feeder new : K → Option K) (w : K → Line) (k o : K) (u : Option Mark) → (w k).end ≡ Leads o u → feeder o ≡ Some k → HasCut entries u → Refed feeder new o None → IsNet entries feeder w
      → IsNet entries new (set w k (record (w k) { end = Nowhere }))
  net_ends entries feeder new w k o u leads feeds is_cut r n =
      let l : Line = w k in
      let line : IsLine entries feeder k l = n.line k in
      let old : IsFed entries o k (w o) l = n.feeds o k feeds in
      let marks : Leads o old.mark ≡ Leads o u = sym old.leads ∙ leads in
      let same_mark : old.mark ≡ u = cc in
      let both : IsTorn entries (w o).back × IsTorn entries l.front = joint_cut entries (w o).back l.front old.mark (subst (HasCut entries) (sym same_mark) is_cut) old.joint in
      let fed_now : (j : K) → new j ≡ None → IsTorn entries (w j).back = λ j e.
      elim (same o j) [
        | inl i ↦ subst (λ (h : K). IsTorn entries (w h).back) i both.0
        | inr a ↦ (n.line j).fed (sym (r.1 j a) ∙ e)
      ] in
      let l' : Line = record l { end = Nowhere } in
      record {
        line = λ j. set_cases (IsLine entries new j) w k l' j
            (λ e. subst (λ (i : K). IsLine entries new i l') e (record { streams = line.streams; ends = both.1; fed = fed_now k }))
            (λ a. record { streams = (n.line j).streams; ends = other_end entries feeder new o k None feeds r j a (w j) (w j).end (n.line j).ends; fed = fed_now j });
        feeds = λ p j e. (
            let o_not : o ≢ p = λ h. (let clash : None ≡ Some j = sym r.0 ∙ ap new h ∙ e in cc clash) in
            let before : feeder p ≡ Some j = sym (r.1 p o_not) ∙ e in
            let was : IsFed entries p j (w p) (w j) = n.feeds p j before in
            let k_not : k ≢ j = λ h. (
            let mine : (w k).end ≡ Leads p was.mark = ap (λ (i : K). (w i).end) h ∙ was.leads in
            let clash : Leads o u ≡ Leads p was.mark = sym leads ∙ mine in
            o_not cc) in
            let at_j : set w k l' j ≡ w j = set_cases (λ (x : Line). x ≡ w j) w k l' j (λ h. absurd (k_not h)) (λ _. refl) in
            let same_back : (set w k l' p).back ≡ (w p).back = set_cases (λ (x : Line). x.back ≡ (w p).back) w k l' p (λ h. ap (λ (i : K). (w i).back) h) (λ _. refl) in
            record {
              mark = was.mark;
              leads = ap (λ (x : Line). x.end) at_j ∙ was.leads;
              joint = subst (λ (b : List Cell). IsJoint entries b (set w k l' j).front was.mark) (sym same_back) (subst (λ (x : Line). IsJoint entries (w p).back x.front was.mark) (sym at_j) was.joint);
            });
      }

  -- a channel is taken from now on
  pub net_opens : (entries : List Entry) (feeder : K → Option K) (w : K → Line) (k : K) → (w k).end ≡ Closed → IsNet entries feeder w → IsNet entries feeder (set w k (record (w k) { end = Takes nothing_taken; begun = [] }))
  net_opens entries feeder w k closed n =
      let l : Line = w k in
      let line : IsLine entries feeder k l = n.line k in
      net_front entries feeder w k (record l { end = Takes nothing_taken; begun = [] }) n refl
      (record { streams = line.streams; ends = begins_anew entries l.front (subst (IsEnd entries feeder k l) closed line.ends); fed = line.fed })
      (λ o e. (let old : IsFed entries o k (w o) l = n.feeds o k e in absurd (let clash : Closed ≡ Leads o old.mark = sym closed ∙ old.leads in cc clash)))

  -- or no more: its chain was cut just before
  pub net_closes : (entries : List Entry) (feeder : K → Option K) (w : K → Line) (k : K) → (w k).end ≡ Takes nothing_taken → (w k).begun ≡ [] → IsNet entries feeder w → IsNet entries feeder (set w k (record (w k) { end = Closed }))
  net_closes entries feeder w k takes none n =
      let l : Line = w k in
      let line : IsLine entries feeder k l = n.line k in
      let taker : IsTaker entries l.begun nothing_taken l.front = subst (IsEnd entries feeder k l) takes line.ends in
      net_front entries feeder w k (record l { end = Closed }) n refl
      (record { streams = line.streams; ends = subst (λ (b : List Cell). Rest entries b l.front) none taker.rest; fed = line.fed })
      (no_feeder entries feeder w k nothing_taken takes n)

  -- the feeder is quiet: nothing of it is to come, and nothing is open
  pub empty_torn : (entries : List Entry) (l : Line) → l.cells ≡ [] → Streams entries l.front l.cells l.back → IsTorn entries l.back → IsTorn entries l.front
  empty_torn entries l none s t = subst (IsTorn entries) (sym (let e : l.front ≡ l.back = subst (λ (x : List Cell). Streams entries l.front x l.back) none s in e)) t

  pub net_quiet : (entries : List Entry) (feeder new : K → Option K) (w : K → Line) (k o : K) → feeder o ≡ Some k → (w k).cells ≡ [] → IsTorn entries (w k).back → Refed feeder new o None → IsNet entries feeder w → IsNet entries new w
  net_quiet entries feeder new w k o feeds none t r n =
      let old : IsFed entries o k (w o) (w k) = n.feeds o k feeds in
      let front : IsTorn entries (w k).front = empty_torn entries (w k) none (n.line k).streams t in
      let back : IsTorn entries (w o).back = agree_torn entries (w o).back (w k).front old.joint.agree front in
      let ends : (j : K) → IsEnd entries new j (w j) (w j).end = λ j.
      elim (same k j) [
        | inl i ↦ subst (λ (h : K). IsEnd entries new h (w h) (w h).end) i (subst (IsEnd entries new k (w k)) (sym old.leads) (inr (none, front)))
        | inr a ↦ other_end entries feeder new o k None feeds r j a (w j) (w j).end (n.line j).ends
      ] in
      record {
        line = λ j. record {
          streams = (n.line j).streams;
          ends = ends j;
          fed = λ e. elim (same o j) [
            | inl i ↦ subst (λ (h : K). IsTorn entries (w h).back) i back
            | inr a ↦ (n.line j).fed (sym (r.1 j a) ∙ e)
          ];
        };
        feeds = λ p j e. (
            let o_not : o ≢ p = λ h. (let clash : None ≡ Some j = sym r.0 ∙ ap new h ∙ e in cc clash) in
            n.feeds p j (sym (r.1 p o_not) ∙ e));
      }

  -- a list becomes the feeder of one that had none: by a new branch, or since its branch's output is free again
  newer_end : (entries : List Entry) (feeder new : K → Option K) (o k : K) → feeder o ≡ None → Refed feeder new o (Some k) → (j : K) (l : Line) (e : End) → IsEnd entries feeder j l e → IsEnd entries new j l e
  newer_end entries feeder new o k none r j l (Takes q) h = h
  newer_end entries feeder new o k none r j l Nowhere h = h
  newer_end entries feeder new o k none r j l Closed h = h
  newer_end entries feeder new o k none r j l (Leads p u) (inr q) = inr q
  newer_end entries feeder new o k none r j l (Leads p u) (inl e) =
      let far : o ≢ p = λ h. (let clash : None ≡ Some j = sym none ∙ ap feeder h ∙ e in cc clash) in
      inl (r.1 p far ∙ e)

  pub net_feeds : (entries : List Entry) (feeder new : K → Option K) (w : K → Line) (k o : K) (u : Option Mark) → IsTorn entries (w k).front → ((p : K) → feeder p ≢ Some k) → feeder o ≡ None → Refed feeder new o (Some k) → IsNet entries feeder w
      → IsNet entries new (set w k (record (w k) { end = Leads o u }))
  net_feeds entries feeder new w k o u front idle none r n =
      let l' : Line = record (w k) { end = Leads o u } in
      let w' : K → Line = set w k l' in
      let fed_now : (j : K) → new j ≡ None → IsTorn entries (w j).back = λ j e.
      elim (same o j) [
        | inl i ↦ subst (λ (h : K). IsTorn entries (w h).back) i ((n.line o).fed none)
        | inr a ↦ (n.line j).fed (sym (r.1 j a) ∙ e)
      ] in
      let same_back : (p : K) → (w' p).back ≡ (w p).back = λ p. set_cases (λ (x : Line). x.back ≡ (w p).back) w k l' p (λ h. ap (λ (i : K). (w i).back) h) (λ _. refl) in
      record {
        line = λ j. set_cases (IsLine entries new j) w k l' j
            (λ e. subst (λ (i : K). IsLine entries new i l') e (record { streams = (n.line k).streams; ends = inl r.0; fed = fed_now k }))
            (λ a. record { streams = (n.line j).streams; ends = newer_end entries feeder new o k none r j (w j) (w j).end (n.line j).ends; fed = fed_now j });
        feeds = λ p j e. elim (same o p) [
          | inl i ↦ (
              let j_is : k ≡ j = (let both : Some k ≡ Some j = sym r.0 ∙ ap new i ∙ e in cc) in
              let here : IsFed entries o k (w' o) l' = record {
                mark = u;
                leads = refl;
                joint = subst (λ (b : List Cell). IsJoint entries b (w k).front u) (sym (same_back o)) (joint_new entries (w o).back (w k).front u ((n.line o).fed none) front);
              } in
              let there : IsFed entries o k (w' o) (w' k) = subst (IsFed entries o k (w' o)) (sym (set_here w k l')) here in
              subst (λ (h : K). IsFed entries p h (w' p) (w' h)) j_is (subst (λ (h : K). IsFed entries h k (w' h) (w' k)) i there))
          | inr a ↦ (
              let before : feeder p ≡ Some j = sym (r.1 p a) ∙ e in
              let was : IsFed entries p j (w p) (w j) = n.feeds p j before in
              let k_not : k ≢ j = λ h. idle p (before ∙ ap (λ (i : K). Some i) (sym h)) in
              let at_j : w' j ≡ w j = set_cases (λ (x : Line). x ≡ w j) w k l' j (λ h. absurd (k_not h)) (λ _. refl) in
              record {
                mark = was.mark;
                leads = ap (λ (x : Line). x.end) at_j ∙ was.leads;
                joint = subst (λ (b : List Cell). IsJoint entries b (w' j).front was.mark) (sym (same_back p)) (subst (λ (x : Line). IsJoint entries (w p).back x.front was.mark) (sym at_j) was.joint);
              })
        ];
      }

  -- a branch that feeds nothing is made, moved or deleted
  pub net_turns : (entries : List Entry) (feeder : K → Option K) (w : K → Line) (k : K) (e : End) → ((p : K) → feeder p ≢ Some k) → IsEnd entries feeder k (record (w k) { end = e }) e → IsNet entries feeder w
      → IsNet entries feeder (set w k (record (w k) { end = e }))
  net_turns entries feeder w k e idle is n =
      net_front entries feeder w k (record (w k) { end = e }) n refl (record { streams = (n.line k).streams; ends = is; fed = (n.line k).fed }) (λ o h. absurd (idle o h))

  pub empty_front : (entries : List Entry) (feeder : K → Option K) (w : K → Line) (k : K) → (w k).cells ≡ [] → feeder k ≡ None → IsNet entries feeder w → IsTorn entries (w k).front
  empty_front entries feeder w k none fed n = empty_torn entries (w k) none (n.line k).streams ((n.line k).fed fed)

  -- a list that leads to its own end
  pub record NetOverItself (entries : List Entry) (feeder : K → Option K) (w : K → Line) (k : K) (c d : Cell) (cells : List Cell) : Type 0 where
    pub next : List Cell
    pub other : List Cell
    pub net : IsNet entries feeder (set w k (record (w k) { cells = cells ++ d ∷ []; front = next; back = other; end = Leads k (unfinished_after c) }))

  pub net_over_itself : (entries : List Entry) (feeder : K → Option K) (w : K → Line) (k : K) (u : Option Mark) (c d : Cell) (cells : List Cell) → (w k).end ≡ Leads k u → (w k).cells ≡ c ∷ cells → bare d ≡ bare c
      → IsNet entries feeder w → NetOverItself entries feeder w k c d cells
  net_over_itself entries feeder w k u c d cells leads is bares n =
      let l : Line = w k in
      let line : IsLine entries feeder k l = n.line k in
      let s : Streams entries l.front (c ∷ cells) l.back = subst (λ (x : List Cell). Streams entries l.front x l.back) is line.streams in
      let feeds : feeder k ≡ Some k = is_feeder entries feeder k l k u c cells is (subst (IsEnd entries feeder k l) leads line.ends) in
      let old : IsFed entries k k l l = n.feeds k k feeds in
      let over : GoesOver entries l.back d s.0 (unfinished_after c) = joint_over entries l.back l.front old.mark c d s.0 bares old.joint s.1 in
      let l' : Line = record l { cells = cells ++ d ∷ []; front = s.0; back = over.other; end = Leads k (unfinished_after c) } in
      let new : K → Line = set w k l' in
      let line' : IsLine entries feeder k l' = record {
        streams = streams_push entries s.0 cells l.back d over.other s.2 over.step;
        ends = inl feeds;
        fed = λ e. absurd (let clash : None ≡ Some k = sym e ∙ feeds in cc clash);
      } in
      let at_k : new k ≡ l' = set_here w k l' in
      let elsewhere : (j : K) → k ≢ j → new j ≡ w j = λ j a. set_cases (λ (x : Line). x ≡ w j) w k l' j (λ e. absurd (a e)) (λ _. refl) in
      record {
        next = s.0;
        other = over.other;
        net = record {
          line = λ j. set_cases (IsLine entries feeder j) w k l' j (λ e. subst (λ (i : K). IsLine entries feeder i l') e line') (λ _. n.line j);
          feeds = λ o j e. elim (same k j) [
            | inl k_is ↦ (
                let mine : feeder o ≡ Some k = e ∙ ap (λ (h : K). Some h) (sym k_is) in
                let was : IsFed entries o k (w o) l = n.feeds o k mine in
                let ends : Leads o was.mark ≡ Leads k u = sym was.leads ∙ leads in
                let o_is : o ≡ k = cc in
                let here : IsFed entries k k l' l' = record { mark = unfinished_after c; leads = refl; joint = over.joint } in
                let there : IsFed entries k k (new k) (new k) = subst (λ (x : Line). IsFed entries k k x x) (sym at_k) here in
                subst (λ (i : K). IsFed entries o i (new o) (new i)) k_is (subst (λ (i : K). IsFed entries i k (new i) (new k)) (sym o_is) there))
            | inr k_not ↦ (
                let o_not : k ≢ o = λ h. (let clash : Some k ≡ Some j = sym feeds ∙ ap feeder h ∙ e in k_not cc) in
                subst (λ (x : Line). IsFed entries o j x (new j)) (sym (elsewhere o o_not)) (subst (IsFed entries o j (w o)) (sym (elsewhere j k_not)) (n.feeds o j e)))
          ];
        };
      }
