-- What code reads of a hand is what the words of the board say of the entry that gave it.
use Rattle.std.proofs.Common.{◌≡◌, ℕ, true, Option, Some, None, refl}
use Rattle.std.proofs.lemmas.Bool.{false≢true}
use Rattle.std.specs.Prelude.{is_none}
use Rattle.flow_journal.specs.Pasts.{Past}
use Rattle.flow_journal.specs.Hands.{hand, is_free, takes_up}
use Rattle.board_rules.proofs.Legal.{names_role}
use Rattle.nd_base.specs.declared.frame.FrameName.{FrameName}
use Rattle.flow_journal.specs.declared.entry.Entry.{Entry}
use Rattle.flow_journal.specs.declared.entry.Entry.TheVariants.{Load, Take, TakeBlock, Save}
use Rattle.board_rules.specs.InHand.{hand_name, hand_node, is_load_of, is_job_on, is_piece_on, has_part_of}
use Rattle.course_parts.specs.RoleStates.{hand_of}
use Rattle.course_parts.specs.HandWords.{has_nothing, array_of, node_of, loads, works_on, saves_on, shares}

pub array-is : (o : Option Entry) → array_of (hand_of o) ≡ hand_name o
array-is None = refl
array-is (Some (Load r k b n f g x)) = refl
array-is (Some (Take r v m k)) = refl
array-is (Some (TakeBlock f x r v m k b n g)) = refl
array-is (Some (Save r v m k g)) = refl
array-is (Some _) = refl

pub node-is : (o : Option Entry) → node_of (hand_of o) ≡ hand_node o
node-is None = refl
node-is (Some (Load r k b n f g x)) = refl
node-is (Some (Take r v m k)) = refl
node-is (Some (TakeBlock f x r v m k b n g)) = refl
node-is (Some (Save r v m k g)) = refl
node-is (Some _) = refl

pub loads-is : (a : FrameName) (o : Option Entry) → loads a (hand_of o) ≡ is_load_of a o
loads-is a None = refl
loads-is a (Some (Load r k b n f g x)) = refl
loads-is a (Some (Take r v m k)) = refl
loads-is a (Some (TakeBlock f x r v m k b n g)) = refl
loads-is a (Some (Save r v m k g)) = refl
loads-is a (Some _) = refl

pub works_on-is : (w : ℕ) (a : FrameName) (o : Option Entry) → works_on w a (hand_of o) ≡ is_job_on w a o
works_on-is w a None = refl
works_on-is w a (Some (Load r k b n f g x)) = refl
works_on-is w a (Some (Take r v m k)) = refl
works_on-is w a (Some (TakeBlock f x r v m k b n g)) = refl
works_on-is w a (Some (Save r v m k g)) = refl
works_on-is w a (Some _) = refl

pub saves_on-is : (a : FrameName) (o : Option Entry) → saves_on a (hand_of o) ≡ is_piece_on a o
saves_on-is a None = refl
saves_on-is a (Some (Load r k b n f g x)) = refl
saves_on-is a (Some (Take r v m k)) = refl
saves_on-is a (Some (TakeBlock f x r v m k b n g)) = refl
saves_on-is a (Some (Save r v m k g)) = refl
saves_on-is a (Some _) = refl

pub shares-is : (a : FrameName) (o : Option Entry) → shares a (hand_of o) ≡ has_part_of a o
shares-is a None = refl
shares-is a (Some (Load r k b n f g x)) = refl
shares-is a (Some (Take r v m k)) = refl
shares-is a (Some (TakeBlock f x r v m k b n g)) = refl
shares-is a (Some (Save r v m k g)) = refl
shares-is a (Some _) = refl

-- a role's hand is there where it gives something
free-by : (r : ℕ) (o : Option Entry) → ((e : Entry) → o ≡ Some e → takes_up r e ≡ true) → has_nothing (hand_of o) ≡ is_none o
free-by r None up = refl
free-by r (Some (Load q k b n f g x)) up = refl
free-by r (Some (Take q v m k)) up = refl
free-by r (Some (TakeBlock f x q v m k b n g)) up = refl
free-by r (Some (Save q v m k g)) up = refl
free-by r (Some _) up = absurd (false≢true (up _ refl))

pub free-is : (r : ℕ) (P : Past) → has_nothing (hand_of (hand r P)) ≡ is_free r P
free-is r P = free-by r (hand r P) (names_role r P)
