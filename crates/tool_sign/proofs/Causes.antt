-- Which count rose, by the end of the command.
use Rattle.std.proofs.Common.{◌⊎◌, inl, inr, Result, refl, arith}
use Rattle.aggregator_session.specs.Faults.{LostBy}
use Rattle.aggregator_session.specs.declared.fault.SignFault.{SignFault}
use Rattle.aggregator_session.specs.declared.fault.Why.TheVariants.{DialFailed, ReadFailed, WriteFailed}
use Rattle.disk_trait.specs.Faults.{Rose}
use Rattle.aggregator_session.specs.Signing.{Signature}
use Rattle.aggregator_session.specs.Tables.{TableSeen}
use Rattle.tool_base.specs.Ending as ending
use Rattle.tool_base.specs.Ending.{Ending}
use Rattle.tool_base.specs.Touched.{DeviceRose}
use Rattle.tool_base.specs.World.{StoreRun}
use Rattle.tool_sign.proofs.Origins.{Comes, Origins, SignsCome, TaskComes, sign-comes, signs-says, upto-comes}
use Rattle.tool_sign.specs.Ports.{NetRun, SignedOver, Signing, sign_of}
use Rattle.tool_sign.specs.Sign.{SigningRun, session_words}
use Rattle.tool_sign.specs.Tasks.{MessageSource, SessionWords, message_in, message_limit}
use Rattle.tool_words.specs.Words.{SignWords}

module _ (store : StoreRun) (net : NetRun) where
  -- each of the three failures comes from a count that rose
  abbrev pub counted : Origins
  counted = record {
    store = Rose store.before.count store.after.count;
    device = DeviceRose store;
    net = Rose net.before.port_count net.after.port_count;
    missing = λ member round. Unit {0};
  }

  -- sessions, wherever their message comes from
  module _ (asked : SessionWords) (source : MessageSource) where
    pub task-counted : ((end : Ending) → source.fails end → Comes counted end) → TaskComes counted asked store source
    task-counted message = record { message = message; key = λ read. read.0; tree = λ read. read.0; reference = λ read. read.0; device = λ fails. fails.rose }

    pub signs-counted : SignsCome counted asked store source net
    signs-counted s task = record {
      unread = λ read. read.0;
      unloaded = λ fails. fails.rose;
      unoffered = λ rose never. rose;
      table = λ signed.
          let says = signs-says (sign_of s) signed.old signed.new signed.over.port signed.over.done _ signed.over.signs in
          let rose = says.0 in
          let first = signed.fresh.faults in
          let last = signed.rise in
          omega (arith, rose, first, last);
      reference = λ signed.
          let rose = signed.over.unread.rises refl in
          let fresh = task.reads.fresh in
          let rise = task.reads.rise in
          omega (arith, rose, fresh, rise);
      lost = λ member round why signed. tt;
    }

module _ (words : SignWords) (store : StoreRun) (net : NetRun) where
  ends-counted : (end : Ending) → SigningRun words store net end → Comes (counted store net) end
  ends-counted end run =
      sign-comes (counted store net) words store net (λ failed. failed.rose)
      (task-counted store net (session_words words) (message_in store words.message) (λ one fails. upto-comes (counted store net) store message_limit words.message one (λ read. read.0) fails))
      (signs-counted store net (session_words words) (message_in store words.message)) end run.touched run.ends

  pub store-rose : SigningRun words store net ending.StoreFailed → Rose store.before.count store.after.count
  store-rose run = ends-counted ending.StoreFailed run

  pub device-rose : SigningRun words store net ending.DeviceFailed → DeviceRose store
  device-rose run = ends-counted ending.DeviceFailed run

  pub net-rose : SigningRun words store net ending.NetFailed → Rose net.before.port_count net.after.port_count
  net-rose run = ends-counted ending.NetFailed run

-- a port that was new counts what failed over its links, and the net counts such a port
pub links-rose : (signing : Signing) (old new : TableSeen) (net : NetRun) (outcome : Result Signature SignFault) → SignedOver signing old new net outcome
    → LostBy DialFailed outcome ⊎ LostBy WriteFailed outcome ⊎ LostBy ReadFailed outcome → Rose net.before.count net.after.count
links-rose signing old new net outcome over lost =
    let rose : Rose over.port.count over.done.count = elim lost [
      | inl one ↦ over.dialled.dialled one
      | inr more ↦ elim more [
        | inl one ↦ over.dialled.unwritten one
        | inr one ↦ over.dialled.unread one
      ]
    ] in
    over.count.rose (λ none. omega (arith, rose, none))
