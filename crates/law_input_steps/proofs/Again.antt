-- requests that stand are sent again

use Rattle.std.proofs.Common.{◌≡◌, ℕ, Bool, true, false, not, List, [], ◌∷◌, ◌++◌, Some, refl, sym, ◌∙◌, ap, subst, filter, map, fold, replicate, append_assoc, if◌then◌else◌, arith}
use Rattle.law_input_views.specs.world_model.Words.{End, NodeId, next_control, with_control, is_estab, frame_cells, Desk, Standing, sent_again, Switch, default_channel, sends_request, sends_again}
use Rattle.law_input_views.specs.world_model.gsmp_wire.Layout.{octets_of}
use Rattle.law_input_views.specs.ordered_lists.Ordered.{Every, InOrder}
use Rattle.law_input_views.specs.world_model.port_model.Desk.{message_at}
use Rattle.law_input_views.specs.law_branch_line.Words.{ToSwitch, Copy, OnInput, Elsewhere}
use Rattle.law_input_views.specs.law_branch_line.Line.{Asked, Apart, Unasked, Stands as Standing_at, Answered, Line}
use Rattle.law_input_views.specs.law_branch_line.Asking.{ask_again}
use Rattle.law_input_views.specs.law_branch_line.Moves.{Move, AskAgain, AskOtherAgain, step}
use Rattle.law_input_views.specs.world_model.Controller.{Acted}
use Rattle.law_input_views.specs.Words.{own_request, type_of, is_own, own_of, other_of, others_of}
use Rattle.law_input_views.specs.Shown.{AskedShows, ShowsRequests}
use Rattle.law_input_steps.specs.Part.{Part, part_at, Stands, Reaches, AnyLine, Leads}
use Rattle.law_input_steps.specs.Asking.{Cut, IsReady}
use Rattle.law_input_steps.proofs.Lists.{filter_front, filter_cut, map_cut, IsAlone, one_alone}
use Rattle.law_input_steps.proofs.Ends.{IsAsked, concerns, on_input, own_is, word_on, word_away, is_other, own_test}
use Rattle.law_input_steps.proofs.Goes.{Goes, goes_to, goes_next, by_move, lose_to_switch, Rise, again_is}
use Rattle.law_input_steps.proofs.Reach.{reaches_by, leads_self, leads_then, stands_later}
use Rattle.law_input_steps.proofs.Sent.{IsReadable, pool, pool_shows, pool_part, with_made, with_sent, control_sent, made_extends, made_unmade, again_each}
use Rattle.law_input_steps.proofs.Asks.{others_rise, copied}

some_is : {A : Type 0} (a b : A) → Some a ≡ Some b → a ≡ b
some_is a b h = cc h

stands_out : (input : End) (estab : Bool) (own : List Standing) (asked : Asked) (s : Standing) (xs ys : List Standing) → own ≡ xs ++ s ∷ ys → concerns input s.request ≡ true
    → AskedShows input estab own asked → asked ≡ Standing_at s.number (on_input s.request)
stands_out input true own Apart s xs ys is here h = absurd h
stands_out input true own Unasked s [] ys is here h = absurd (cc (sym is ∙ h))
stands_out input true own Unasked s (x ∷ xs) ys is here h = absurd (cc (sym is ∙ h))
stands_out input true own (Answered n r) s [] ys is here h = absurd (cc (sym is ∙ h))
stands_out input true own (Answered n r) s (x ∷ xs) ys is here h = absurd (cc (sym is ∙ h))
stands_out input false own asked s [] ys is here h = absurd (cc (sym is ∙ h.1))
stands_out input false own asked s (x ∷ xs) ys is here h = absurd (cc (sym is ∙ h.1))
stands_out input true own (Standing_at n r) s xs ys is here h =
    let alone : IsAlone xs s ys h.standing = one_alone xs s ys h.standing (sym is ∙ h.alone) in
    let number : n ≡ s.number = sym h.numbered ∙ ap (λ (z : Standing). z.number) (sym alone.is) in
    let request : r ≡ on_input s.request = some_is r (on_input s.request) (sym h.is ∙ (ap (λ (z : Standing). own_request input z.request) (sym alone.is) ∙ own_is input s.request here)) in
    λ i. Standing_at (number i) (request i)

module _ (node : NodeId) (input : End) where
  abbrev pub again_part : Part → Standing → (fits : Bool) → Part
  again_part p s fits = with_sent p default_channel (octets_of (message_at p.desk s)) fits

  copies_more : (line : Line) (m : Move) (c : ToSwitch) (n : ℕ) → ((q : List ToSwitch) → step (record line { to_switch = q }) m ≡ record line { to_switch = q ++ c ∷ [] })
      → step line m ≡ record line { to_switch = line.to_switch ++ c ∷ [] } → Goes line (record line { to_switch = line.to_switch ++ c ∷ replicate n c })
  copies_more line m c n each first =
      goes_next line (record line { to_switch = line.to_switch ++ c ∷ [] }) (record line { to_switch = line.to_switch ++ c ∷ replicate n c })
      (by_move line m (record line { to_switch = line.to_switch ++ c ∷ [] }) first)
      (goes_to (record line { to_switch = line.to_switch ++ c ∷ [] }) (record line { to_switch = (line.to_switch ++ c ∷ []) ++ replicate n c }) (record line { to_switch = line.to_switch ++ c ∷ replicate n c })
      (again_each line m c each n (line.to_switch ++ c ∷ [])) (ap (λ (z : List ToSwitch). record line { to_switch = z }) (append_assoc line.to_switch (c ∷ []) (replicate n c))))

  again_stands : (p : Part) (s : Standing) (fits : Bool) (line : Line) (w : ToSwitch) (n : ℕ) → Goes line (record line { to_switch = line.to_switch ++ w ∷ replicate n w })
      → ShowsRequests node input (with_made p (octets_of (message_at p.desk s))).frames (frame_cells default_channel (next_control p.numbers) (octets_of (message_at p.desk s))) (w ∷ replicate n w) → Stands node input p line → Reaches node input (again_part p s fits) AnyLine line
  again_stands p s fits line w n g shown h =
      reaches_by node input (again_part p s fits) line (record line { to_switch = pool fits line.to_switch (w ∷ replicate n w) })
      (goes_next line (record line { to_switch = line.to_switch ++ w ∷ replicate n w }) (record line { to_switch = pool fits line.to_switch (w ∷ replicate n w) }) g
      (lose_to_switch line (pool_part fits line.to_switch (w ∷ replicate n w))))
      (record {
        own = h.own;
        far = h.far;
        to_switch = pool_shows fits later.to_switch shown;
        at_switch = later.at_switch;
        to_controller = later.to_controller;
        gathered = later.gathered;
        at_controller = h.at_controller;
        drawn = h.drawn;
        before = h.before;
        behind = h.behind;
        unmade = later.unmade;
        numbered = h.numbered;
      })
    where
      payload : List ℕ
      payload = octets_of (message_at p.desk s)

      later : Stands node input (with_made p payload) line
      later = stands_later node input p (with_made p payload).frames (with_control p.numbers) line (made_extends p payload h.unmade) (made_unmade p payload h.unmade) (omega arith) h

  pub again_leads : (p : Part) (s : Standing) (fits : Bool) → Cut p.desk.standing s → IsAsked s.request → IsReadable (message_at p.desk s) → Leads node input p (again_part p s fits)
  again_leads p s fits cut shape reads line h =
      elim (concerns input s.request) as (λ t. concerns input s.request ≡ t → Reaches node input (again_part p s fits) AnyLine line) [
        | true ↦ λ t.
            let w : ToSwitch = Copy line.controller.adjacency.own s.number (OnInput (on_input s.request)) in
            let k = copied node input p p.desk.rows s.number s.request line.controller.adjacency.own (OnInput (on_input s.request)) shape reads (sym (word_on input s.request t)) in
            let own : own_of input p.desk.standing ≡ own_of input cut.before ++ s ∷ own_of input cut.after = ap (own_of input) cut.is
            ∙ (filter_cut (is_own input) cut.before (s ∷ cut.after)
            ∙ ap (λ (z : List Standing). own_of input cut.before ++ z) (filter_front (is_own input) s cut.after (own_test input s ∙ t))) in
            let asked : line.controller.asked ≡ Standing_at s.number (on_input s.request) =
            stands_out input (is_estab line.controller.adjacency.state) (own_of input p.desk.standing) line.controller.asked s (own_of input cut.before) (own_of input cut.after) own t h.own.asked in
            again_stands p s fits line w k.more
            (copies_more line AskAgain w k.more (λ q. ap (ask_again (record line { to_switch = q })) asked) (ap (ask_again line) asked)) k.shows h
        | false ↦ λ t.
            let w : ToSwitch = Copy line.controller.adjacency.own s.number (Elsewhere (type_of s.request)) in
            let k = copied node input p p.desk.rows s.number s.request line.controller.adjacency.own (Elsewhere (type_of s.request)) shape reads (sym (word_away input s.request t)) in
            let others : line.controller.others ≡ others_of input cut.before ++ other_of s ∷ others_of input cut.after = h.own.others
            ∙ (ap (map other_of) (ap (filter (is_other input)) cut.is ∙ (filter_cut (is_other input) cut.before (s ∷ cut.after)
            ∙ ap (λ (z : List Standing). filter (is_other input) cut.before ++ z) (filter_front (is_other input) s cut.after (ap not (own_test input s ∙ t)))))
            ∙ map_cut other_of (filter (is_other input) cut.before) (s ∷ filter (is_other input) cut.after)) in
            let rise : InOrder Rise line.controller.others = subst (InOrder Rise) (sym h.own.others) (others_rise input p.desk h.numbered) in
            again_stands p s fits line w k.more
            (copies_more line (AskOtherAgain s.number) w k.more
            (λ q. again_is (record line { to_switch = q }) (others_of input cut.before) (other_of s) (others_of input cut.after) others rise)
            (again_is line (others_of input cut.before) (other_of s) (others_of input cut.after) others rise)) k.shows h
      ] refl

  desk_stays : (switch : Switch) (a : Acted) (s : Standing) → (part_at input switch (sends_request a s)).desk ≡ a.controller.desk
  desk_stays switch a s = control_sent input switch (λ (q : Part). q.desk ≡ a.controller.desk) a default_channel (octets_of (message_at a.controller.desk s)) both
    where
      both : (fits : Bool) → (with_sent (part_at input switch a) default_channel (octets_of (message_at a.controller.desk s)) fits).desk ≡ a.controller.desk
      both true = refl
      both false = refl

  pub each_again_leads : (switch : Switch) (xs : List Standing) (a : Acted) → Every (IsReady a.controller.desk) xs
      → Leads node input (part_at input switch a) (part_at input switch (fold sends_request a xs))
  each_again_leads switch [] a ready = leads_self node input (part_at input switch a)
  each_again_leads switch (s ∷ xs) a ready = leads_then node input (part_at input switch a) (part_at input switch (sends_request a s)) (part_at input switch (fold sends_request (sends_request a s) xs))
      (control_sent input switch (λ (q : Part). Leads node input (part_at input switch a) q) a default_channel (octets_of (message_at a.controller.desk s))
      (λ fits. again_leads (part_at input switch a) s fits ready.0.stands ready.0.shape ready.0.reads))
      (each_again_leads switch xs (sends_request a s) (subst (λ (desk : Desk). Every (IsReady desk) xs) (sym (desk_stays switch a s)) ready.1))

  -- a tick sends the lowest again
  pub sends_again_leads : (switch : Switch) (a : Acted) → Every (IsReady a.controller.desk) (sent_again a.controller.desk)
      → Leads node input (part_at input switch a) (part_at input switch (sends_again a))
  sends_again_leads switch a ready = elim (is_estab a.controller.adjacency.state)
      as (λ t. Leads node input (part_at input switch a) (part_at input switch (if t then fold sends_request a (sent_again a.controller.desk) else a))) [
        | true ↦ each_again_leads switch (sent_again a.controller.desk) a ready
        | false ↦ leads_self node input (part_at input switch a)
      ]
