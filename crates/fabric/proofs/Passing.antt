-- The rows of a switch's branches after a cell passed on one.

use Rattle.std.proofs.Common.{◌≡◌, ℕ, ◌*◌, ◌+◌, ◌<◌, true, List, [], get_or, set, Some, None, IfSome, refl, sym, ap, subst, ◌∙◌}
use Rattle.std.specs.Prelude.{Option, IfNone}
use Rattle.std.specs.Option.{option_map}
use Rattle.std.specs.FinMap.{insert}
use Rattle.std.proofs.lemmas.List.{set-get_or}
use Rattle.net_types.specs.declared.node.PortNo.{PortNo}
use Rattle.net_types.specs.declared.channel.End.{End}
use Rattle.atm_cells.specs.declared.cell.Cell.{Cell}
use Rattle.crossbar_model.specs.declared.branch.Branch.{Branch}
use Rattle.crossbar_model.specs.Channels.{is_connectable}
use Rattle.crossbar_model.specs.Crossbar.{unfinished_after}
use Rattle.fabric.specs.Table.{end_of, after, branches_in, IsTable}
use Rattle.fabric.proofs.Channels.{inside_row, place_is}
use Rattle.fabric.proofs.Rows.{entry_of, table_written, map_inserted}

module _ (ports : List PortNo) (vpis : ℕ) (rows : List (List (Option Branch))) (row column : ℕ) (c : Cell) (e : End) (is : IsTable ports vpis rows) (low : row < 16) (most : column < 15888) (at : end_of row column ≡ e) where
  -- what the place has
  abbrev pub here : Option Branch
  here = get_or (get_or rows row []) column None

  abbrev pub passed : List (List (Option Branch))
  passed = set rows row (set (get_or rows row []) column (after here c))

  pub same_rows : here ≡ None → passed ≡ rows
  same_rows none =
      ap (λ (o : Option Branch). set rows row (set (get_or rows row []) column (after o c))) none
      ∙ ap (λ (o : Option Branch). set rows row (set (get_or rows row []) column o)) (sym none)
      ∙ ap (λ (r : List (Option Branch)). set rows row r) (set-get_or (get_or rows row []) column None)
      ∙ set-get_or rows row []

  input : (b : Branch) → here ≡ Some b → is_connectable ports vpis e ≡ true
  input b read =
      subst (λ (x : End). is_connectable ports vpis x ≡ true) (place_is row column e most at)
      (is.connectable (15888 * row + column) b (entry_of rows row column most ∙ read)).0

  pub table_passed : (o : Option Branch) → here ≡ o → IsTable ports vpis passed
  table_passed None read = subst (λ (r : List (List (Option Branch))). IsTable ports vpis r) (sym (same_rows read)) is
  table_passed (Some b) read =
      let inside = inside_row ports vpis e row column is.of_links is.some is.few (input b read) most at in
      let output = (is.connectable (15888 * row + column) b (entry_of rows row column most ∙ read)).1 in
      subst (λ (o : Option Branch). IsTable ports vpis (set rows row (set (get_or rows row []) column (after o c)))) (sym read)
      (table_written ports vpis rows row column (after (Some b) c) is low most inside (subst (λ (x : End). is_connectable ports vpis x ≡ true) (sym at) (input b read), output))

  pub map_passed : (o : Option Branch) → here ≡ o → IfSome o (λ b. branches_in passed ≡ insert (branches_in rows) e (record b { unfinished = unfinished_after c }))
  map_passed None read = tt
  map_passed (Some b) read =
      let inside = inside_row ports vpis e row column is.of_links is.some is.few (input b read) most at in
      ap (λ (o : Option Branch). branches_in (set rows row (set (get_or rows row []) column (after o c)))) read
      ∙ map_inserted ports vpis rows row column (after (Some b) c) is low most inside (record b { unfinished = unfinished_after c }) e refl at

-- what is known of an output is known of its branch
pub if_none : (result : Option End) (o : Option Branch) (P : Type 0) → result ≡ option_map (λ b. b.output) o → (o ≡ None → P) → IfNone result P
if_none None None P e absent = absent refl
if_none None (Some b) P e absent = absurd (cc e)
if_none (Some x) o P e absent = tt

pub if_some : (result : Option End) (o : Option Branch) (P : End → Type 0) → result ≡ option_map (λ b. b.output) o → IfSome o (λ b. P b.output) → IfSome result P
if_some None o P e some = tt
if_some (Some x) None P e some = absurd (cc e)
if_some (Some x) (Some b) P e some =
    let same : b.output ≡ x = cc e in
    subst P same some
