-- Work on a link: one piece of it after another, and what each call does.
use Rattle.std.proofs.Common.{◌≡◌, ◌≢◌, ℕ, List, sym, ap, ◌∙◌, subst, arith, Option, take, Result}
use Rattle.outside.specs.declared.host.Heard.{Heard}
use Rattle.outside.specs.Files.{Two, File}
use Rattle.outside.specs.declared.failed.Failed.{Failed}
use Rattle.outside.specs.Host.{HearsAnswer, ReadsClock, SendsOnLink}
use Rattle.outside.specs.Outside.{LinkCall, Moment, Outside, QuietCall}
use Rattle.outside.proofs.CallSteps.{calls_then, told_on}
use Rattle.outside.proofs.RunLaws.{grow_hear, grow_read, grow_send, grow_then, went_out}
use Rattle.sync_rules.specs.declared.entries.Session.{Session}
use Rattle.sync_rules.specs.Clients.{Meaning}
use Rattle.sync_store.specs.Ready.{IsReady}
use Rattle.sync_store.specs.Store.{StoreValue}
use Rattle.sync_course.specs.Links.{stands_ended}
use Rattle.sync_course.specs.declared.ends.LinkEnd.TheVariants as link_end
use Rattle.record_grammar.specs.declared.stream.Ending.{Ending}
use Rattle.record_grammar.specs.declared.stream.Ending.TheVariants as ending_kind
use Rattle.sync_node.specs.Going.{LetsNothingFall, specs_of}
use Rattle.sync_node.specs.Working.{IsAble}
use Rattle.sync_node.proofs.SafeLaws.{goes_link, specs_told}

pub goes_then : (o o1 o2 : Outside) → LetsNothingFall o o1 → LetsNothingFall o1 o2 → LetsNothingFall o o2
goes_then o o1 o2 first second = record {
  same_files = second.same_files ∙ first.same_files;
  later = omega (arith, first.later, second.later);
  links = grow_then o.links o1.links o2.links first.links second.links;
  same_dialled = second.same_dialled ∙ first.same_dialled;
  same_specs = second.same_specs ∙ first.same_specs;
  clock = λ two files.
      let there = told_on o o1 two first.same_files files in
      omega (arith, first.clock two files, second.clock there.0 there.1);
  calls = calls_then o o1 o2 first.calls second.calls;
}

pub goes_heard : (link : ℕ) (answer : Heard) (buf : List ℕ) (o o' : Outside) → QuietCall o o'
    → HearsAnswer link answer buf o.links o'.links → LetsNothingFall o o'
goes_heard link answer buf o o' call hears =
    goes_link _ o o' call (grow_hear link answer buf o.links o'.links hears) hears.same_dialled (ap specs_of hears.same_told)

pub goes_sent : {during : Moment → Type 0} (link : ℕ) (bytes : List ℕ)
    (result : Result (Unit {0}) Failed) (o o' : Outside) → LinkCall during o o'
    → SendsOnLink link bytes result o.links o'.links → LetsNothingFall o o'
goes_sent link bytes result o o' call sends =
    let out = went_out link bytes result o.links o'.links sends in
    goes_link _ o o' call (grow_send link bytes result o.links o'.links sends) sends.same_dialled
    (ap specs_of out.1 ∙ specs_told link (take out.0 bytes) o.links.told)

pub goes_read : (reading : ℕ) (o o' : Outside) → QuietCall o o'
    → ReadsClock reading o.links o'.links → LetsNothingFall o o'
goes_read reading o o' call reads =
    goes_link _ o o' call (grow_read reading o.links o'.links reads) reads.same_dialled (ap specs_of reads.same_told)

-- a session may go on behind a call that leaves the files
pub able_calm : (clients : Meaning) (link : ℕ) (session : Session) (s : StoreValue)
    (o o' : Outside) (during : Moment → Type 0) → LinkCall during o o'
    → o'.links.dialled ≡ o.links.dialled
    → IsAble clients link session s o → IsAble clients link session s o'
able_calm clients link session s o o' during call dialled able = record {
  ready = subst (λ (f : Option (Two File)). IsReady clients s f) (sym call.same_files) able.ready;
  settled = able.settled;
  known = able.known;
  dialled = omega (arith, able.dialled, dialled);
}

-- how a link ends whose other side has ended: it is not asked any more, and no call on it failed
pub ended_not_going : (e : Ending) → stands_ended e ≢ link_end.Going
ended_not_going ending_kind.Clean is = cc
ended_not_going (ending_kind.Inside place) is = cc
ended_not_going (ending_kind.Bad place why) is = cc
