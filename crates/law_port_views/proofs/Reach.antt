-- moves lead on from one port at work to the next, and through folds

use Rattle.std.proofs.Common.{◌≡◌, Bool, true, false, List, [], ◌∷◌, ◌++◌, refl, ◌∙◌, ap, fold, if◌then◌else◌}
use Rattle.law_label_line.specs.Cells.{Role, Cell}
use Rattle.law_label_line.specs.Line.{Line}
use Rattle.law_label_line.specs.Moves.{Move, step, run}
use Rattle.law_port_facts.specs.port_model.Words.{Work}
use Rattle.law_port_views.specs.Link.{LinkLabel}
use Rattle.law_port_views.specs.Shown.{Shown, rest_of}
use Rattle.law_port_views.specs.Reaching.{ReachesFrom, Reaches, Leads}

pub run_join : (line : Line) (xs ys : List Move) → run line (xs ++ ys) ≡ run (run line xs) ys
run_join line [] ys = refl
run_join line (x ∷ xs) ys = run_join (step line x) xs ys

module _ (role : Role) (link : LinkLabel) (like : Type 0) (queued : List Cell) where
  -- no move
  pub stays : (w : Work) (line : Line) → Shown role link like queued w line → Reaches role link like queued w line
  stays w line s = record { moves = []; after = line; is = refl; shown = s; rest = refl }

  -- one move
  pub by_move : (w : Work) (line after : Line) (move : Move) → step line move ≡ after → Shown role link like queued w after
      → rest_of role after ≡ rest_of role line → Reaches role link like queued w line
  by_move w line after move e s r = record { moves = move ∷ []; after = after; is = e; shown = s; rest = r }

  -- a first line that is shown
  pub begins : (w : Work) (start line : Line) → Shown role link like queued w start → rest_of role start ≡ rest_of role line
      → ReachesFrom role link like queued w start line
  begins w start line s r = record { moves = []; after = start; is = refl; shown = s; rest = r }

  -- one move more at the front
  pub begins_by : (w : Work) (line start other : Line) (move : Move) → step line move ≡ start → ReachesFrom role link like queued w start other
      → ReachesFrom role link like queued w line other
  begins_by w line start other move e r = record {
    moves = move ∷ r.moves;
    after = r.after;
    is = ap (λ (z : Line). run z r.moves) e ∙ r.is;
    shown = r.shown;
    rest = r.rest;
  }

  -- what is left but at the end is that of another line too
  pub aside : (w : Work) (start line other : Line) → rest_of role line ≡ rest_of role other → ReachesFrom role link like queued w start line
      → ReachesFrom role link like queued w start other
  aside w start line other e r = record { moves = r.moves; after = r.after; is = r.is; shown = r.shown; rest = r.rest ∙ e }

  pub next : (v w : Work) (start line : Line) → ReachesFrom role link like queued v start line → Leads role link like queued v w
      → ReachesFrom role link like queued w start line
  next v w start line r f =
      let s : Reaches role link like queued w r.after = f r.after r.shown in
      record {
        moves = r.moves ++ s.moves;
        after = s.after;
        is = run_join start r.moves s.moves ∙ (ap (λ (z : Line). run z s.moves) r.is ∙ s.is);
        shown = s.shown;
        rest = s.rest ∙ r.rest;
      }

  pub leads_self : (w : Work) → Leads role link like queued w w
  leads_self w line s = stays w line s

  pub leads_on : (u v w : Work) → Leads role link like queued u v → Leads role link like queued v w → Leads role link like queued u w
  leads_on u v w f g line s = next v w line line (f line s) g

  -- either way of a test
  pub leads_if : (u v w : Work) (b : Bool) → (b ≡ true → Leads role link like queued u v) → (b ≡ false → Leads role link like queued u w)
      → Leads role link like queued u (if b then v else w)
  leads_if u v w true f g = f refl
  leads_if u v w false f g = g refl

  -- a fold whose step is moves is moves
  pub leads_fold : {A : Type 0} (f : Work → A → Work) → ((v : Work) (x : A) → Leads role link like queued v (f v x))
      → (xs : List A) (w : Work) → Leads role link like queued w (fold f w xs)
  leads_fold f each [] w line s = stays w line s
  leads_fold f each (x ∷ xs) w line s = next (f w x) (fold f (f w x) xs) line line (each w x line s) (leads_fold f each xs (f w x))

  -- and where a fact is kept that the steps need
  pub leads_fold_with : {A : Type 0} (P : Work → Type 0) (f : Work → A → Work) → ((v : Work) (x : A) → P v → P (f v x))
      → ((v : Work) (x : A) → P v → Leads role link like queued v (f v x))
      → (xs : List A) (w : Work) → P w → Leads role link like queued w (fold f w xs)
  leads_fold_with P f keep each [] w p line s = stays w line s
  leads_fold_with P f keep each (x ∷ xs) w p line s = next (f w x) (fold f (f w x) xs) line line (each w x p line s)
      (leads_fold_with P f keep each xs (f w x) (keep w x p))
