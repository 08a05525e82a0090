-- What labels, and the evidence that one was quit, are seen as

use Rattle.std.specs.Prelude.{ℕ}
use Rattle.net_types.specs.declared.number.Instance.{Instance}

-- the instance of the adjacency for which its pool was opened, its number, and what its state keeps: an
-- offered label its flow, a recalled one its flow, the number of its last RECLAIM, and whether that is
-- acknowledged
pub record Tag (S : Type 0) : Type 0 where
  pub instance : Instance
  pub number : ℕ
  pub state : S

-- the label that the peer can't use any more, and the number of its last RECLAIM
pub record Gone : Type 0 where
  pub instance : Instance
  pub number : ℕ
  pub last : ℕ
