-- the grants of a port change: that of the label, or another

use Rattle.std.proofs.Common.{◌≡◌, ◌≢◌, ℕ, Bool, false, List, [], ◌∷◌, ◌++◌, Option, None, Some, inl, refl, sym, ◌∙◌, ap, subst, if◌then◌else◌}
use Rattle.std.specs.Prelude.{nat_eq}
use Rattle.law_port_facts.specs.ordered_lists.Ordered.{Every}
use Rattle.law_port_facts.specs.port_model.Words.{at, put, without, Grant, grant_label, Work, with_grants, with_grant, without_grant}
use Rattle.law_port_facts.proofs.Keyed.{on_each, on_both, by_eq, at_put_same, at_put_other}
use Rattle.law_label_line.specs.Cells.{Downstream, Upstream, Cell}
use Rattle.law_label_line.specs.Line as lines
use Rattle.law_label_line.specs.Line.{Line}
use Rattle.law_port_views.specs.Link.{LinkLabel}
use Rattle.law_port_views.specs.Shown.{granted, GrantShows, IsLent, IsOfOther, Once, Shown}
use Rattle.law_port_views.proofs.Lists.{at_without_same, at_without_other, at_more_same, at_more_other}

-- *At most one grant of the label*
module _ (label : ℕ) where
  others_more : (grants : List Grant) (x : Grant) → Every (IsOfOther label) grants → x.label ≢ label → Every (IsOfOther label) (grants ++ x ∷ [])
  others_more [] x h n = (n, tt)
  others_more (g ∷ grants) x h n = (h.0, others_more grants x h.1 n)

  others_put : (y : Grant) (grants : List Grant) → Every (IsOfOther label) grants → Every (IsOfOther label) (put grant_label y grants)
  others_put y [] h = tt
  others_put y (z ∷ grants) h = by_eq z.label y.label
      (λ e t. subst (λ (b : Bool). Every (IsOfOther label) (if b then y ∷ grants else z ∷ put grant_label y grants)) (sym t) ((λ (k : y.label ≡ label). h.0 (e ∙ k)), h.1))
      (λ n t. subst (λ (b : Bool). Every (IsOfOther label) (if b then y ∷ grants else z ∷ put grant_label y grants)) (sym t) (h.0, others_put y grants h.1))

  pub once_put : (y : Grant) (grants : List Grant) → Once label grants → Once label (put grant_label y grants)
  once_put y [] h = tt
  once_put y (z ∷ grants) h = by_eq z.label y.label
      (λ e t. subst (λ (b : Bool). Once label (if b then y ∷ grants else z ∷ put grant_label y grants)) (sym t) ((λ (k : y.label ≡ label). h.0 (e ∙ k)), h.1))
      (λ n t. subst (λ (b : Bool). Once label (if b then y ∷ grants else z ∷ put grant_label y grants)) (sym t)
      ((λ (k : z.label ≡ label). others_put y grants (h.0 k)), once_put y grants h.1))

  others_without : (k : ℕ) (grants : List Grant) → Every (IsOfOther label) grants → Every (IsOfOther label) (without grant_label k grants)
  others_without k [] h = tt
  others_without k (z ∷ grants) h = on_both (Every (IsOfOther label)) (nat_eq z.label k) (without grant_label k grants) (z ∷ without grant_label k grants)
      (others_without k grants h.1) (h.0, others_without k grants h.1)

  pub once_without : (k : ℕ) (grants : List Grant) → Once label grants → Once label (without grant_label k grants)
  once_without k [] h = tt
  once_without k (z ∷ grants) h = on_both (Once label) (nat_eq z.label k) (without grant_label k grants) (z ∷ without grant_label k grants)
      (once_without k grants h.1) ((λ (e : z.label ≡ label). others_without k grants (h.0 e)), once_without k grants h.1)

  none_others : (grants : List Grant) → at grant_label label grants ≡ None → Every (IsOfOther label) grants
  none_others [] e = tt
  none_others (z ∷ grants) e = by_eq z.label label
      (λ same t. absurd (some_none z (ap (λ (b : Bool). if b then Some z else at grant_label label grants) (sym t) ∙ e)))
      (λ n t. (n, none_others grants (ap (λ (b : Bool). if b then Some z else at grant_label label grants) (sym t) ∙ e)))
    where
      some_none : (z : Grant) → ◌≡◌ {A = Option Grant} (Some z) None → ⊥
      some_none z f = absurd (cc f)

  pub once_more : (grants : List Grant) (x : Grant) → Once label grants → (x.label ≡ label → at grant_label label grants ≡ None) → Once label (grants ++ x ∷ [])
  once_more [] x h new = ((λ (e : x.label ≡ label). tt), tt)
  once_more (z ∷ grants) x h new = ((λ (e : z.label ≡ label). others_more grants x (h.0 e) (λ (k : x.label ≡ label). here e (new k))), once_more grants x h.1 later)
    where
      here : z.label ≡ label → at grant_label label (z ∷ grants) ≡ None → ⊥
      here e none = (none_others (z ∷ grants) none).0 e

      later : x.label ≡ label → at grant_label label grants ≡ None
      later k = by_eq z.label label (λ e t. absurd (here e (new k)))
          (λ n t. ap (λ (b : Bool). if b then Some z else at grant_label label grants) (sym t) ∙ new k)

module _ (link : LinkLabel) (like : Type 0) (queued : List Cell) where
  -- *The end that hands the label out* has nothing of the grants of its port
  regrants_down : (w : Work) (grants : List Grant) (line : Line) → Shown Downstream link like queued w line
      → Shown Downstream link like queued (record w { port = record w.port { grants = grants } }) line
  regrants_down w grants line h = record {
    side = h.side;
    session = h.session;
    label = h.label;
    flow = h.flow;
    number = h.number;
    unspent = h.unspent;
    known = h.known;
    reassembled = h.reassembled;
    drawn = h.drawn;
    own = h.own;
    sent = h.sent;
  }

  pub grants_down : (w : Work) (grants : List Grant) (line : Line) → Shown Downstream link like queued w line → Shown Downstream link like queued (with_grants w grants) line
  grants_down w grants line h = on_both (λ (v : Work). Shown Downstream link like queued v line) w.halted w (record w { port = record w.port { grants = grants } })
      h (regrants_down w grants line h)

  -- *The other end*: the grant of the label is this one now, and the line's too
  regrants_up : (w : Work) (grants : List Grant) (line : Line) (k : lines.Grant) → GrantShows line.upstream.state (at grant_label link.label grants) k
      → Once link.label grants → (like → IsLent k) → Shown Upstream link like queued w line
      → Shown Upstream link like queued (record w { port = record w.port { grants = grants } }) (record line { grant = k })
  regrants_up w grants line k shows once lent h = record {
    side = h.side;
    session = h.session;
    grant = shows;
    once = once;
    lent = lent;
    expected = h.expected;
    drawn = h.drawn;
    own = h.own;
    sent = h.sent;
  }

  regrants_live : (w : Work) (grants : List Grant) (line : Line) (k : lines.Grant) → w.halted ≡ false
      → GrantShows line.upstream.state (at grant_label link.label grants) k → Once link.label grants → (like → IsLent k)
      → Shown Upstream link like queued w line → Shown Upstream link like queued (with_grants w grants) (record line { grant = k })
  regrants_live w grants line k live shows once lent h = on_each (λ (v : Work). Shown Upstream link like queued v (record line { grant = k })) w.halted w
      (record w { port = record w.port { grants = grants } }) (λ t. absurd (cc (live, t))) (λ f. regrants_up w grants line k shows once lent h)

  -- another grant changes, or is a new one, or ends
  elsewhere_up : (w : Work) (grants : List Grant) (line : Line) → at grant_label link.label grants ≡ at grant_label link.label w.port.grants
      → Once link.label grants → Shown Upstream link like queued w line → Shown Upstream link like queued (with_grants w grants) line
  elsewhere_up w grants line same once h = on_both (λ (v : Work). Shown Upstream link like queued v line) w.halted w (record w { port = record w.port { grants = grants } })
      h (regrants_up w grants line line.grant (subst (λ (o : Option Grant). GrantShows line.upstream.state o line.grant) (sym same) h.grant) once h.lent h)

  pub other_grant : (w : Work) (y : Grant) (line : Line) → y.label ≢ link.label → Shown Upstream link like queued w line → Shown Upstream link like queued (with_grant w y) line
  other_grant w y line n h = elsewhere_up w (put grant_label y w.port.grants) line (at_put_other grant_label y link.label w.port.grants n) (once_put link.label y w.port.grants h.once) h

  pub other_granted : (w : Work) (y : Grant) (line : Line) → y.label ≢ link.label → Shown Upstream link like queued w line
      → Shown Upstream link like queued (with_grants w (w.port.grants ++ y ∷ [])) line
  other_granted w y line n h = elsewhere_up w (w.port.grants ++ y ∷ []) line (at_more_other grant_label link.label w.port.grants y n)
      (once_more link.label w.port.grants y h.once (λ e. absurd (n e))) h

  pub other_ended : (w : Work) (k : ℕ) (line : Line) → k ≢ link.label → Shown Upstream link like queued w line → Shown Upstream link like queued (without_grant w k) line
  other_ended w k line n h = elsewhere_up w (without grant_label k w.port.grants) line (at_without_other grant_label k link.label w.port.grants n)
      (once_without link.label k w.port.grants h.once) h

  -- the grant of the label is another, is new, or ends
  pub own_grant : (w : Work) (before after : Grant) (line : Line) (k : lines.Grant) → w.halted ≡ false → at grant_label link.label w.port.grants ≡ Some before
      → after.label ≡ link.label → k ≡ granted after → (like → IsLent k) → Shown Upstream link like queued w line
      → Shown Upstream link like queued (with_grant w after) (record line { grant = k })
  own_grant w before after line k live found n is lent h =
      let at_it : at grant_label link.label (put grant_label after w.port.grants) ≡ Some after
      = subst (λ (j : ℕ). at grant_label j (put grant_label after w.port.grants) ≡ Some after) n
      (at_put_same grant_label after w.port.grants before (subst (λ (j : ℕ). at grant_label j w.port.grants ≡ Some before) (sym n) found)) in
      regrants_live w (put grant_label after w.port.grants) line k live
      (subst (λ (o : Option Grant). GrantShows line.upstream.state o k) (sym at_it) is) (once_put link.label after w.port.grants h.once) lent h

  pub own_granted : (w : Work) (x : Grant) (line : Line) (k : lines.Grant) → w.halted ≡ false → at grant_label link.label w.port.grants ≡ None
      → x.label ≡ link.label → k ≡ granted x → (like → IsLent k) → Shown Upstream link like queued w line
      → Shown Upstream link like queued (with_grants w (w.port.grants ++ x ∷ [])) (record line { grant = k })
  own_granted w x line k live none n is lent h =
      let at_it : at grant_label link.label (w.port.grants ++ x ∷ []) ≡ Some x
      = subst (λ (j : ℕ). at grant_label j (w.port.grants ++ x ∷ []) ≡ Some x) n
      (at_more_same grant_label w.port.grants x (subst (λ (j : ℕ). at grant_label j w.port.grants ≡ None) (sym n) none)) in
      regrants_live w (w.port.grants ++ x ∷ []) line k live
      (subst (λ (o : Option Grant). GrantShows line.upstream.state o k) (sym at_it) is) (once_more link.label w.port.grants x h.once (λ e. none)) lent h

  pub own_ended : (w : Work) (k : ℕ) (line : Line) → w.halted ≡ false → k ≡ link.label → (like → ⊥) → Shown Upstream link like queued w line
      → Shown Upstream link like queued (without_grant w k) (record line { grant = lines.NoGrant })
  own_ended w k line live n none h =
      let at_it : at grant_label link.label (without grant_label k w.port.grants) ≡ None
      = subst (λ (j : ℕ). at grant_label link.label (without grant_label j w.port.grants) ≡ None) (sym n) (at_without_same grant_label link.label w.port.grants) in
      regrants_live w (without grant_label k w.port.grants) line lines.NoGrant live
      (subst (λ (o : Option Grant). GrantShows line.upstream.state o lines.NoGrant) (sym at_it) (inl refl)) (once_without link.label k w.port.grants h.once)
      (λ l. absurd (none l)) h
