-- How the branches of a switch stand in arrays, and the finite map that these are: each port from 1
-- to 8 has an array by channel, and another for its channels on the control port. No public clause
-- rests on it.

use Rattle.std.specs.Prelude.{ℕ, zero, suc, ◌+◌, ◌-◌, ◌*◌, ◌/◌, ◌%◌, ◌==◌, nat_lt, if◌then◌else◌, ◌≡◌, ◌<◌, ◌≤◌, true, All, length, List, [], ◌∷◌, Option, None, Some, slice_index_or}
use Rattle.std.specs.List.{list_any}
use Rattle.std.specs.FinMap.{from_sorted}
use Rattle.net_types.specs.declared.node.PortNo.{PortNo}
use Rattle.net_types.specs.declared.channel.End.{End}
use Rattle.atm_cells.specs.declared.cell.Cell.{Cell}
use Rattle.crossbar_model.specs.declared.branch.Branch.{Branch}
use Rattle.crossbar_model.specs.Channels.{IsLinkPort, is_connectable}
use Rattle.crossbar_model.specs.Crossbar.{Branches, unfinished_after}

-- the ports of a switch besides port 0, how many paths it connects on each, and the branches
pub record Table : Type 0 where
  pub ports : List PortNo
  pub vpis : ℕ
  pub branches : Branches

-- a path has 993 channels: VCI 15, and 32 to 1023
abbrev pub vci_at : ℕ → ℕ
vci_at number = if number == 0 then 15 else number + 31

-- a channel of a row: row p - 1 has those of port p on the control port, row p + 7 those
-- of port p itself
abbrev pub end_on : (row path number : ℕ) → End
end_on row path number =
    if nat_lt row 8
    then record { port = record { 0 = 0 }; channel = record { vpi = 16 * (row + 1) + path; vci = vci_at number } }
    else record { port = record { 0 = row - 7 }; channel = record { vpi = path; vci = vci_at number } }

abbrev pub end_of : (row column : ℕ) → End
end_of row column = end_on row (column / 993) (column % 993)

-- all places in order: a row has at most 15,888 columns, those of 16 paths
abbrev pub end_at : ℕ → End
end_at n = end_of (n / 15888) (n % 15888)

abbrev pub entry_at : List (List (Option Branch)) → ℕ → Option Branch
entry_at rows n = slice_index_or (slice_index_or rows (n / 15888) []) (n % 15888) None

-- the entries of so many places from the k-th one on, with their channels
abbrev pub with_entry : End → Option Branch → List (End × Branch) → List (End × Branch)
with_entry e None rest = rest
with_entry e (Some b) rest = (e, b) ∷ rest

abbrev pub entries_from : (ℕ → Option Branch) → (k n : ℕ) → List (End × Branch)
entries_from f k zero = []
entries_from f k (suc n) = with_entry (end_at k) (f k) (entries_from f (suc k) n)

-- the map of the first n places
abbrev pub map_of : (ℕ → Option Branch) → (n : ℕ) → Branches
map_of f n = from_sorted (entries_from f 0 n)

unfoldable pub branches_in : List (List (Option Branch)) → Branches
branches_in rows = map_of (entry_at rows) (15888 * 16)

-- an entry after a cell passed on its branch, if there is one
abbrev pub after : Option Branch → Cell → Option Branch
after None c = None
after (Some b) c = Some (record b { unfinished = unfinished_after c })

-- how many columns a row has: none where the switch lacks its port
abbrev pub columns_of : (ports : List PortNo) → (vpis row : ℕ) → ℕ
columns_of ports vpis row = if list_any (λ p. p.0 == row % 8 + 1) ports then 993 * vpis else 0

-- 16 rows, and in each row room for the channels that the switch connects; each branch leads from one
-- of them to another
pub record IsTable (ports : List PortNo) (vpis : ℕ) (rows : List (List (Option Branch))) : Type 0 where
  pub of_links : All IsLinkPort ports
  pub some : 1 ≤ vpis
  pub few : vpis ≤ 16
  pub sixteen : length rows ≡ 16
  pub columns : (row : ℕ) → row < 16 → length (slice_index_or rows row []) ≡ columns_of ports vpis row
  pub connectable : (n : ℕ) (b : Branch) → entry_at rows n ≡ Some b → (is_connectable ports vpis (end_at n) ≡ true) × (is_connectable ports vpis b.output ≡ true)
