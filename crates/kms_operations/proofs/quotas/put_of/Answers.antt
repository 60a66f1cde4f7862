use Rattle.std.proofs.Common.{◌≡◌, ap, subst, sym, ◌∙◌}
use Rattle.std.specs.Prelude.{option_map}
use Rattle.kms_record.specs.ChangeEffect.{limit_value}
use Rattle.kms_record.specs.Quota.{IsLimitInRange}
use Rattle.kms_operations.proofs.AclLaws.{name_short}
use Rattle.kms_operations.proofs.QuotaLaws.{limit_back, limit_fits}
use Rattle.kms_operations.proofs.quotas.put_of.Goals as goal

pub returns-clause-effect : goal.returns-clause-effect
returns-clause-effect c =
    let secrets : option_map limit_value c.optional_limit_of.result ≡ c.args.limits.secrets = ap (option_map limit_value) c.optional_limit_of.ensures ∙ limit_back c.args.limits.secrets c.requires.secrets in
    let orders : option_map limit_value c.optional_limit_of-2.result ≡ c.args.limits.orders = ap (option_map limit_value) c.optional_limit_of-2.ensures ∙ limit_back c.args.limits.orders c.requires.orders in
    let containers : option_map limit_value c.optional_limit_of-3.result ≡ c.args.limits.containers = ap (option_map limit_value) c.optional_limit_of-3.ensures ∙ limit_back c.args.limits.containers c.requires.containers in
    let consumers : option_map limit_value c.optional_limit_of-4.result ≡ c.args.limits.consumers = ap (option_map limit_value) c.optional_limit_of-4.ensures ∙ limit_back c.args.limits.consumers c.requires.consumers in
    cc (secrets, orders, containers, consumers)

pub returns-clause-range : goal.returns-clause-range
returns-clause-range c = record {
  project = name_short c.args.project c.as_bytes.ensures.name;
  limits = record {
    secrets = subst IsLimitInRange (sym c.optional_limit_of.ensures) (limit_fits c.args.limits.secrets c.requires.secrets);
    orders = subst IsLimitInRange (sym c.optional_limit_of-2.ensures) (limit_fits c.args.limits.orders c.requires.orders);
    containers = subst IsLimitInRange (sym c.optional_limit_of-3.ensures) (limit_fits c.args.limits.containers c.requires.containers);
    consumers = subst IsLimitInRange (sym c.optional_limit_of-4.ensures) (limit_fits c.args.limits.consumers c.requires.consumers);
  };
}
