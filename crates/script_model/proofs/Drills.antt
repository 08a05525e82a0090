-- the first lines of a drill

use Rattle.std.proofs.Common.{◌≡◌, ℕ, List, [], ◌∷◌, refl}
use Rattle.std.specs.Fmt.{digits}
use Rattle.std.specs.Prelude.{codes, flat_map, take}
use Rattle.rule_model.specs.lab_text.Text.{line_of}
use Rattle.script_model.specs.Drill.{node_count, topology_lines, sends_from, behind}

nodes_are : node_count 1 ≡ 5
nodes_are = refl

topology_is : flat_map line_of (take 15 (topology_lines 5))
    ≡ codes "node n1 10.0.1.1\nnode n2 10.0.2.1\nnode n3 10.0.3.1\nnode n4 10.0.4.1\nnode n5 10.0.5.1\nlink n1:2 n2:1\nlink n2:2 n3:1\nlink n3:2 n4:1\nlink n4:2 n5:1\nroute n1 10.0.1.0/24 local\nroute n1 10.0.2.0/24 via 2\nroute n1 10.0.3.0/24 via 2\nroute n1 10.0.4.0/24 via 2\nroute n1 10.0.5.0/24 via 2\nroute n2 10.0.1.0/24 via 1\n"
unfolding digits
topology_is = refl

sends_are : flat_map line_of (sends_from 5 1 (1 ∷ 2 ∷ 3 ∷ []))
    ≡ codes "send n1 4500004600010000201180a50a0001010a0005010fa3000900320000000000000000000000000000000000000000000000000000000000000000000000000000000000000000\nrun 20\nsend n1 4500002a00020000201180c00a0001010a0005010fa00009001600000000000000000000000000000000\nrun 20\nsend n1 4500002500030000201180c40a0001010a0005010fa1000900110000000000000000000000\nrun 20\n"
unfolding digits
sends_are = refl

-- behind the packets that 16 and 10 divide, and at the restarts
abbrev behind_lines : ℕ → List ℕ
behind_lines m = flat_map line_of (behind m)

behind_16 : behind_lines 16 ≡ codes "lose n1:c\nrun 20\n"
unfolding digits
behind_16 = refl

behind_200 : behind_lines 200 ≡ codes "run 20\ntick *\nrun 60\nrestart n2\n"
unfolding digits
behind_200 = refl

behind_300 : behind_lines 300 ≡ codes "run 20\ntick *\nrun 60\nrestartswitch n3\n"
unfolding digits
behind_300 = refl

behind_400 : behind_lines 400 ≡ codes "lose n1:c\nrun 20\ntick *\nrun 60\n"
unfolding digits
behind_400 = refl
