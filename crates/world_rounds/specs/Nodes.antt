-- The replicas of a world, and their nodes and mails.
use Rattle.std.specs.Prelude.{◌≡◌, List, map}
use Rattle.replica_node.specs.declared.node.Node.{Node}
use Rattle.world_steps.specs.declared.mail.MemberMail.{MemberMail}
use Rattle.world_rounds.specs.declared.member.Member.{Member}

-- the nodes of some members
abbrev pub nodes_of : {D : Type 0} → List (Member D) → List (Node D)
nodes_of members = map (λ member. member.node) members

-- what is set for some members
abbrev pub mails_of : {D : Type 0} → List (Member D) → List MemberMail
mails_of members = map (λ member. member.mail) members

-- the nodes of the members and what is set for them, in their order
pub record AreNodesAndMails {D : Type 0} (members : List (Member D)) (nodes : List (Node D)) (mails : List MemberMail) : Type 0 where
  pub nodes_are : nodes ≡ nodes_of members
  pub mails_are : mails ≡ mails_of members
